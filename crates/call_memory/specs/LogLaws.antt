-- What holds of the images of a folder in memory, after any changes.
use Rattle.std.specs.Prelude.{◌≡◌, ◌<◌, ◌≤◌, ℕ, zero, suc, ◌+◌, List, [], ◌∷◌, ◌++◌, length, take, get_or, set, Option, Some, None, refl}
use Rattle.std.proofs.Common.{inl, inr, ⊎_elim, arith, sym, ◌∙◌, ap, subst, length-append}
use Rattle.std.proofs.lemmas.Bool.{cases_eq, cases_lt}
use Rattle.std.proofs.lemmas.List.{length-reverse, length-set, get_or_past, get_or-set_same, get_or-set_other}
use Rattle.std.proofs.Math.Path.{fun_ext}
use Rattle.edge_model.specs.Bytes.{torn_written, shorter_cut}
use Rattle.edge_model.specs.Files.{File, Files, number_of, created, removed, renamed, written, Torn, Shorter}
use Rattle.edge_model.specs.Images.{MayStep, IsAsRead, IsNumbered}
use Rattle.edge_model.specs.declared.role.Role.{Role}
use Rattle.edge_model.specs.declared.role.Role.TheVariants.{Main, Journal, Fresh}
use Rattle.edge_memory.specs.LogLaws.{may_step_number, numbered_same, numbered_created, numbered_removed, numbered_renamed, numbered_renames, same_names}
use Rattle.system_calls.specs.System.{file_of, name_at, FileSteps, FileSynced}
use Rattle.call_memory.specs.Folder.{State, held_in, file_in, shown_in, numbered_if}
use Rattle.call_memory.specs.Log.{changing, after, state_after, ImagesAfter, SinceAfter, newest_first}
use Rattle.call_memory.specs.declared.done.Done.{Done}
use Rattle.call_memory.specs.declared.done.Done.TheVariants.{Write, Cut, Sync, Create, Remove, Rename, SyncFolder}

-- ---- moments

counts_now_after : (start : State) (log : List Done) (t : ℕ) (c : Files) → t ≤ length log → ImagesAfter start log c → SinceAfter start log t c
counts_now_after start [] t c le now = now
counts_now_after start (last ∷ earlier) t c le now = inl now

only_now_after : (start : State) (log : List Done) (t : ℕ) (c : Files) → t ≡ length log → SinceAfter start log t c → ImagesAfter start log c
only_now_after start [] t c is left = left
only_now_after start (last ∷ earlier) t c is (inl now) = now
only_now_after start (last ∷ earlier) t c is (inr past) = absurd (omega (arith, past.0, is))

-- the same over the changes in the order in which they were done
pub counts_now_log : (start : State) (log : List Done) (t : ℕ) (c : Files) → t ≤ length log → ImagesAfter start (newest_first log) c
    → SinceAfter start (newest_first log) t c
counts_now_log start log t c le now = counts_now_after start (newest_first log) t c (omega (arith, length-reverse log)) now

pub only_now_log : (start : State) (log : List Done) (c : Files) → SinceAfter start (newest_first log) (length log) c
    → ImagesAfter start (newest_first log) c
only_now_log start log c left = only_now_after start (newest_first log) (length log) c (omega (arith, length-reverse log)) left

-- ---- what a change does to the bytes of each file

-- a file that is not made yet has no byte
pub unborn_in : (s : State) → held_in s (length s.lists) ≡ []
unborn_in s = get_or_past s.lists (length s.lists) [] (omega arith)

some_is : {k n : ℕ} → Some k ≡ Some n → k ≡ n
some_is is = cc

pub held_changed : (change : List ℕ → List ℕ) (n : ℕ) (s : State) → n < length s.lists → held_in (changing change n s) n ≡ change (held_in s n)
held_changed change n s made = get_or-set_same s.lists n (change (held_in s n)) [] made

pub held_other : (change : List ℕ → List ℕ) (n : ℕ) (s : State) (m : ℕ) → (n ≡ m → ⊥) → held_in (changing change n s) m ≡ held_in s m
held_other change n s m not = get_or-set_other s.lists n m (change (held_in s n)) [] (λ is. not (sym is))

held_past : (change : List ℕ → List ℕ) (n : ℕ) (s : State) → length s.lists ≤ n → held_in (changing change n s) n ≡ held_in s n
held_past change n s past =
    get_or_past (set s.lists n (change (held_in s n))) n [] (omega (arith, length-set s.lists n (change (held_in s n)))) ∙ sym (get_or_past s.lists n [] past)

made_same : (lists : List (List ℕ)) (n : ℕ) → get_or (lists ++ [] ∷ []) n [] ≡ get_or lists n []
made_same [] zero = refl
made_same [] (suc n) = refl
made_same (bytes ∷ lists) zero = refl
made_same (bytes ∷ lists) (suc n) = made_same lists n

-- one file more, which is empty, changes the bytes of none
pub held_made : (name : Role) (s : State) → held_in (after (Create name) s) ≡ held_in s
held_made name s = fun_ext (λ n. made_same s.lists n)

-- ---- no file has two names, and none that is not made yet has one

numbered_changed : (change : List ℕ → List ℕ) (n : ℕ) (s : State) (step : List ℕ → List ℕ → Type 0) (d c : Files) → IsNumbered (length s.lists) d
    → FileSteps step (file_in s n) d c → IsNumbered (length (changing change n s).lists) c
numbered_changed change n s step d c before took =
    subst (λ (k : ℕ). IsNumbered k c) (sym (length-set s.lists n (change (held_in s n))))
    (numbered_same _ d c (record { main = may_step_number took.0; journal = may_step_number took.1; fresh = may_step_number took.2 }) before)

numbered_after : (start : State) → IsNumbered (length start.lists) (shown_in start) → (log : List Done) (c : Files) → ImagesAfter start log c
    → IsNumbered (length (state_after start log).lists) c
numbered_after start first [] c left = subst (IsNumbered (length start.lists)) (sym left) first
numbered_after start first (Write n at bytes ∷ earlier) c left =
    numbered_changed (written at bytes.items) n (state_after start earlier) _ left.0 c (numbered_after start first earlier left.0 left.1) left.2
numbered_after start first (Cut n len ∷ earlier) c left =
    numbered_changed (take len) n (state_after start earlier) _ left.0 c (numbered_after start first earlier left.0 left.1) left.2
numbered_after start first (Sync n ∷ earlier) c left = numbered_after start first earlier c left.0
numbered_after start first (Create name ∷ earlier) c left =
    let s = state_after start earlier in
    let next = length s.lists in
    let before = numbered_after start first earlier left.0 left.1 in
    subst (λ (k : ℕ). IsNumbered k c) (sym (length-append s.lists ([] ∷ [])))
    (numbered_renames (created name next) next (next + 1) (shown_in s) left.0 c (omega arith) before (numbered_created name next left.0 before) left.2)
numbered_after start first (Remove name ∷ earlier) c left =
    let before = numbered_after start first earlier left.0 left.1 in
    numbered_renames (removed name) _ _ (shown_in (state_after start earlier)) left.0 c (omega arith) before (numbered_removed name _ left.0 before) left.2
numbered_after start first (Rename ∷ earlier) c left =
    let before = numbered_after start first earlier left.0 left.1 in
    numbered_renames renamed _ _ (shown_in (state_after start earlier)) left.0 c (omega arith) before (numbered_renamed _ left.0 before) left.2
numbered_after start first (SyncFolder ∷ earlier) c left = numbered_after start first earlier c left.0

-- ---- what the names lead to is an image

may_step : (step : List ℕ → List ℕ → Type 0) (change : List ℕ → List ℕ) → ((b : List ℕ) → step b (change b)) → (n : ℕ) (s : State) (name : Option ℕ)
    → MayStep step (file_in s n) (file_of (held_in s) name) (file_of (held_in (changing change n s)) name)
may_step step change takes n s None = inl refl
may_step step change takes n s (Some m) =
    ⊎_elim (λ is. ⊎_elim (λ made. inr (record {
      number = m;
      before = held_in s m;
      after = held_in (changing change n s) m;
      is_now = ap (λ (k : ℕ). Some k) is;
      was = refl;
      is = refl;
      took = subst (λ (k : ℕ). step (held_in s k) (held_in (changing change n s) k)) is
          (subst (step (held_in s n)) (sym (held_changed change n s made)) (takes (held_in s n)));
    }))
    (λ past. inl (ap (λ (l : List ℕ). Some (record { number = m; bytes = l }))
    (subst (λ (k : ℕ). held_in (changing change n s) k ≡ held_in s k) is (held_past change n s past))))
    (cases_lt n (length s.lists)))
    (λ not. inl (ap (λ (l : List ℕ). Some (record { number = m; bytes = l })) (held_other change n s m not)))
    (cases_eq n m)

changed_left : (step : List ℕ → List ℕ → Type 0) (change : List ℕ → List ℕ) → ((b : List ℕ) → step b (change b)) → (n : ℕ) (s : State)
    → FileSteps step (file_in s n) (shown_in s) (shown_in (changing change n s))
changed_left step change takes n s =
    (may_step step change takes n s s.names.main, may_step step change takes n s s.names.journal, may_step step change takes n s s.names.fresh)

as_read : (n : ℕ) (s : State) (name : Option ℕ) → IsAsRead (file_in s n) (file_of (held_in s) name)
as_read n s None same = cc
as_read n s (Some m) same = ap (λ (k : ℕ). file_in s k) (some_is same)

-- a file is as it reads under every name, and without one
synced_left : (n : ℕ) (s : State) → FileSynced (file_in s n) (shown_in s)
synced_left n s = record { main = as_read n s s.names.main; journal = as_read n s s.names.journal; fresh = as_read n s s.names.fresh }

new_file : (name : Role) (s : State) → file_of (held_in (after (Create name) s)) (Some (length s.lists)) ≡ Some (record { number = length s.lists; bytes = [] })
new_file name s =
    ap (λ (l : List ℕ). Some (record { number = length s.lists; bytes = l }))
    (ap (λ (h : ℕ → List ℕ). h (length s.lists)) (held_made name s) ∙ unborn_in s)

old_file : (name : Role) (s : State) (there : Option ℕ) → file_of (held_in (after (Create name) s)) there ≡ file_of (held_in s) there
old_file name s there = ap (λ (h : ℕ → List ℕ). file_of h there) (held_made name s)

files_are : (a b : Files) → a.main ≡ b.main → a.journal ≡ b.journal → a.fresh ≡ b.fresh → a ≡ b
files_are a b main journal fresh =
    ap (λ (f : Option File). record { main = f; journal = a.journal; fresh = a.fresh }) main
    ∙ ap (λ (f : Option File). record { main = b.main; journal = f; fresh = a.fresh }) journal
    ∙ ap (λ (f : Option File). record { main = b.main; journal = b.journal; fresh = f }) fresh

pub created_shown : (name : Role) (s : State) → shown_in (after (Create name) s) ≡ created name (length s.lists) (shown_in s)
created_shown Main s = files_are _ _ (new_file Main s) (old_file Main s s.names.journal) (old_file Main s s.names.fresh)
created_shown Journal s = files_are _ _ (old_file Journal s s.names.main) (new_file Journal s) (old_file Journal s s.names.fresh)
created_shown Fresh s = files_are _ _ (old_file Fresh s s.names.main) (old_file Fresh s s.names.journal) (new_file Fresh s)

pub removed_shown : (name : Role) (s : State) → shown_in (after (Remove name) s) ≡ removed name (shown_in s)
removed_shown Main s = refl
removed_shown Journal s = refl
removed_shown Fresh s = refl

reads_now_after : (start : State) (log : List Done) → ImagesAfter start log (shown_in (state_after start log))
reads_now_after start [] = refl
reads_now_after start (Write n at bytes ∷ earlier) =
    let s = state_after start earlier in
    (shown_in s, reads_now_after start earlier, changed_left (Torn at (length bytes.items)) (written at bytes.items) (torn_written at bytes.items) n s)
reads_now_after start (Cut n len ∷ earlier) =
    let s = state_after start earlier in (shown_in s, reads_now_after start earlier, changed_left (Shorter len) (take len) (shorter_cut len) n s)
reads_now_after start (Sync n ∷ earlier) = (reads_now_after start earlier, synced_left n (state_after start earlier))
reads_now_after start (Create name ∷ earlier) =
    let s = state_after start earlier in (shown_in s, reads_now_after start earlier, inr (same_names (shown_in s), created_shown name s))
reads_now_after start (Remove name ∷ earlier) =
    let s = state_after start earlier in (shown_in s, reads_now_after start earlier, inr (same_names (shown_in s), removed_shown name s))
reads_now_after start (Rename ∷ earlier) =
    let s = state_after start earlier in (shown_in s, reads_now_after start earlier, inr (same_names (shown_in s), refl))
reads_now_after start (SyncFolder ∷ earlier) = (reads_now_after start earlier, same_names (shown_in (state_after start earlier)))

-- the same over the changes in the order in which they were done
pub reads_now_log : (start : State) (log : List Done) → ImagesAfter start (newest_first log) (shown_in (state_after start (newest_first log)))
reads_now_log start log = reads_now_after start (newest_first log)

pub numbered_log : (start : State) → IsNumbered (length start.lists) (shown_in start) → (log : List Done) (c : Files) → ImagesAfter start (newest_first log) c
    → IsNumbered (length (state_after start (newest_first log)).lists) c
numbered_log start first log c left = numbered_after start first (newest_first log) c left

number_made : (held : ℕ → List ℕ) (name : Option ℕ) (next : ℕ) → ((n : ℕ) → number_of (file_of held name) ≡ Some n → n < next) → (n : ℕ) → name ≡ Some n → n < next
number_made held None next below n is = cc
number_made held (Some m) next below n is = below n is

-- what a name leads to is made
pub name_made : (name : Role) (s : State) → IsNumbered (length s.lists) (shown_in s) → (n : ℕ) → name_at s.names name ≡ Some n → n < length s.lists
name_made Main s numbered = number_made (held_in s) s.names.main (length s.lists) numbered.main
name_made Journal s numbered = number_made (held_in s) s.names.journal (length s.lists) numbered.journal
name_made Fresh s numbered = number_made (held_in s) s.names.fresh (length s.lists) numbered.fresh

file_number : (k : ℕ) (held : ℕ → List ℕ) (file : Option (List ℕ)) (n : ℕ) → number_of (file_of held (numbered_if k file)) ≡ Some n → k ≡ n
file_number k held None n is = cc
file_number k held (Some bytes) n is = some_is is
