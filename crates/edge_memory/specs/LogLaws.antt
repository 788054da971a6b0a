-- What holds of the images of a disk in memory, after any calls.
use Rattle.std.specs.Prelude.{◌≡◌, ℕ, ◌+◌, ◌≤◌, List, [], ◌∷◌, length, take, Vec, Option, Some, None, refl}
use Rattle.std.proofs.Common.{inl, inr, arith, sym, ◌∙◌, ap, subst}
use Rattle.edge_model.specs.Files.{File, Files, file_at, put_at, with_file_bytes, written, number_of, created, removed, renamed, Torn, Shorter}
use Rattle.edge_model.specs.Images.{MayStep, Changes, Renames, IsAsRead, HasSynced, SameNames, AreApart, IsNumbered}
use Rattle.edge_model.specs.Bytes.{torn_written, shorter_cut}
use Rattle.std.specs.declared.alloc.Global.{Global}
use Rattle.std.proofs.lemmas.List.{length-reverse}
use Rattle.edge_memory.specs.Log.{newest_first, file_of, after, LeftBy, next_number, files_of, reads_after, ImagesAfter, SinceAfter}
use Rattle.edge_memory.specs.declared.mem_disk.contents.Contents.{Contents}
use Rattle.edge_memory.specs.declared.mem_disk.contents.Call.{Call}
use Rattle.edge_memory.specs.declared.mem_disk.contents.Call.TheVariants.{Write, Cut, Sync, Create, Remove, Rename, SyncFolder}
use Rattle.edge_model.specs.declared.role.Role.{Role}
use Rattle.edge_model.specs.declared.role.Role.TheVariants.{Main, Journal, Fresh}

pub counts_now_after : (start : Files) (calls : List Call) (t : ℕ) (c : Files) → t ≤ length calls → ImagesAfter start calls c → SinceAfter start calls t c
counts_now_after start [] t c le now = now
counts_now_after start (call ∷ earlier) t c le now = inl now

pub only_now_after : (start : Files) (calls : List Call) (t : ℕ) (c : Files) → t ≡ length calls → SinceAfter start calls t c → ImagesAfter start calls c
only_now_after start [] t c is left = left
only_now_after start (call ∷ earlier) t c is (inl now) = now
only_now_after start (call ∷ earlier) t c is (inr past) = absurd (omega (arith, past.0, is))

some_is : {k n : ℕ} → Some k ≡ Some n → k ≡ n
some_is is = cc

-- a step keeps the numbers
pub may_step_number : {step : List ℕ → List ℕ → Type 0} {now old new : Option File} → MayStep step now old new → number_of new ≡ number_of old
may_step_number (inl same) = ap number_of same
may_step_number (inr stepped) = ap number_of stepped.is ∙ sym (ap number_of stepped.was)

pub changes_names : (step : List ℕ → List ℕ → Type 0) (role : Role) (now d c : Files) → Changes role step now d c → SameNames d c
changes_names step Main now d c changes = record { main = may_step_number changes.0; journal = ap number_of changes.1; fresh = may_step_number changes.2 }
changes_names step Journal now d c changes = record { main = ap number_of changes.0; journal = may_step_number changes.1; fresh = ap number_of changes.2 }
changes_names step Fresh now d c changes = record { main = ap number_of changes.0; journal = ap number_of changes.1; fresh = may_step_number changes.2 }

pub numbered_same : (next : ℕ) (d c : Files) → SameNames d c → IsNumbered next d → IsNumbered next c
numbered_same next d c same numbered = record {
  main = λ n is. numbered.main n (sym same.main ∙ is);
  journal = λ n is. numbered.journal n (sym same.journal ∙ is);
  fresh = λ n is. numbered.fresh n (sym same.fresh ∙ is);
  main_journal = λ n is too. numbered.main_journal n (sym same.main ∙ is) (sym same.journal ∙ too);
  main_fresh = λ n is too. numbered.main_fresh n (sym same.main ∙ is) (sym same.fresh ∙ too);
  journal_fresh = λ n is too. numbered.journal_fresh n (sym same.journal ∙ is) (sym same.fresh ∙ too);
}

numbered_more : (next more : ℕ) (c : Files) → next ≤ more → IsNumbered next c → IsNumbered more c
numbered_more next more c le numbered = record {
  main = λ n is. let lt = numbered.main n is in omega arith;
  journal = λ n is. let lt = numbered.journal n is in omega arith;
  fresh = λ n is. let lt = numbered.fresh n is in omega arith;
  main_journal = numbered.main_journal;
  main_fresh = numbered.main_fresh;
  journal_fresh = numbered.journal_fresh;
}

pub numbered_created : (role : Role) (next : ℕ) (d : Files) → IsNumbered next d → IsNumbered (next + 1) (created role next d)
numbered_created Main next d numbered = record {
  main = λ n is. let same = some_is is in omega arith;
  journal = λ n is. let lt = numbered.journal n is in omega arith;
  fresh = λ n is. let lt = numbered.fresh n is in omega arith;
  main_journal = λ n is too. let same = some_is is in let lt = numbered.journal n too in absurd (omega arith);
  main_fresh = λ n is too. let same = some_is is in let lt = numbered.fresh n too in absurd (omega arith);
  journal_fresh = numbered.journal_fresh;
}
numbered_created Journal next d numbered = record {
  main = λ n is. let lt = numbered.main n is in omega arith;
  journal = λ n is. let same = some_is is in omega arith;
  fresh = λ n is. let lt = numbered.fresh n is in omega arith;
  main_journal = λ n is too. let same = some_is too in let lt = numbered.main n is in absurd (omega arith);
  main_fresh = numbered.main_fresh;
  journal_fresh = λ n is too. let same = some_is is in let lt = numbered.fresh n too in absurd (omega arith);
}
numbered_created Fresh next d numbered = record {
  main = λ n is. let lt = numbered.main n is in omega arith;
  journal = λ n is. let lt = numbered.journal n is in omega arith;
  fresh = λ n is. let same = some_is is in omega arith;
  main_journal = numbered.main_journal;
  main_fresh = λ n is too. let same = some_is too in let lt = numbered.main n is in absurd (omega arith);
  journal_fresh = λ n is too. let same = some_is too in let lt = numbered.journal n is in absurd (omega arith);
}

none_is : {n : ℕ} → number_of None ≡ Some n → ⊥
none_is is = cc

pub numbered_removed : (role : Role) (next : ℕ) (d : Files) → IsNumbered next d → IsNumbered next (removed role d)
numbered_removed Main next d numbered = record {
  main = λ n is. absurd (none_is is);
  journal = numbered.journal;
  fresh = numbered.fresh;
  main_journal = λ n is too. none_is is;
  main_fresh = λ n is too. none_is is;
  journal_fresh = numbered.journal_fresh;
}
numbered_removed Journal next d numbered = record {
  main = numbered.main;
  journal = λ n is. absurd (none_is is);
  fresh = numbered.fresh;
  main_journal = λ n is too. none_is too;
  main_fresh = numbered.main_fresh;
  journal_fresh = λ n is too. none_is is;
}
numbered_removed Fresh next d numbered = record {
  main = numbered.main;
  journal = numbered.journal;
  fresh = λ n is. absurd (none_is is);
  main_journal = numbered.main_journal;
  main_fresh = λ n is too. none_is too;
  journal_fresh = λ n is too. none_is too;
}

pub numbered_renamed : (next : ℕ) (d : Files) → IsNumbered next d → IsNumbered next (renamed d)
numbered_renamed next d numbered = record {
  main = numbered.fresh;
  journal = numbered.journal;
  fresh = λ n is. absurd (none_is is);
  main_journal = λ n is too. numbered.journal_fresh n too is;
  main_fresh = λ n is too. none_is too;
  journal_fresh = λ n is too. none_is too;
}

pub numbered_renames : (change : Files → Files) (next more : ℕ) (now d c : Files) → next ≤ more → IsNumbered next d → IsNumbered more (change d)
    → Renames change now d c → IsNumbered more c
numbered_renames change next more now d c le before after (inl same) = subst (IsNumbered more) (sym same) (numbered_more next more d le before)
numbered_renames change next more now d c le before after (inr made) = subst (IsNumbered more) (sym made.1) after

pub file_number : (k : ℕ) (o : Option (Vec ℕ Global)) (n : ℕ) → number_of (file_of k o) ≡ Some n → k ≡ n
file_number k None n is = absurd (none_is is)
file_number k (Some bytes) n is = some_is is

pub numbered_start : (start : Contents) → IsNumbered 3 (files_of start)
numbered_start start = record {
  main = λ n is. let e = file_number 0 start.main n is in omega arith;
  journal = λ n is. let e = file_number 1 start.journal n is in omega arith;
  fresh = λ n is. let e = file_number 2 start.fresh n is in omega arith;
  main_journal = λ n is too. let a = file_number 0 start.main n is in let b = file_number 1 start.journal n too in omega arith;
  main_fresh = λ n is too. let a = file_number 0 start.main n is in let b = file_number 2 start.fresh n too in omega arith;
  journal_fresh = λ n is too. let a = file_number 1 start.journal n is in let b = file_number 2 start.fresh n too in omega arith;
}

-- the number of a new file is above all others, and no file has two names
pub numbered_after : (start : Contents) (calls : List Call) (c : Files) → ImagesAfter (files_of start) calls c → IsNumbered (next_number calls) c
numbered_after start [] c left = subst (IsNumbered 3) (sym left) (numbered_start start)
numbered_after start (Write role at bytes ∷ earlier) c left =
    numbered_more (next_number earlier) _ c (omega arith)
    (numbered_same _ left.0 c (changes_names _ role _ left.0 c left.2) (numbered_after start earlier left.0 left.1))
numbered_after start (Cut role len ∷ earlier) c left =
    numbered_more (next_number earlier) _ c (omega arith)
    (numbered_same _ left.0 c (changes_names _ role _ left.0 c left.2) (numbered_after start earlier left.0 left.1))
numbered_after start (Sync role ∷ earlier) c left = numbered_more (next_number earlier) _ c (omega arith) (numbered_after start earlier c left.0)
numbered_after start (Create role ∷ earlier) c left =
    let before = numbered_after start earlier left.0 left.1 in
    numbered_renames (created role (next_number earlier)) (next_number earlier) (next_number (Create role ∷ earlier)) _ left.0 c (omega arith) before
    (let n : next_number earlier + 1 ≡ next_number (Create role ∷ earlier) = omega arith in
    subst (λ (k : ℕ). IsNumbered k (created role (next_number earlier) left.0)) n (numbered_created role _ left.0 before)) left.2
numbered_after start (Remove role ∷ earlier) c left =
    let before = numbered_after start earlier left.0 left.1 in
    numbered_renames (removed role) (next_number earlier) (next_number (Remove role ∷ earlier)) _ left.0 c (omega arith) before
    (numbered_more (next_number earlier) _ _ (omega arith) (numbered_removed role _ left.0 before)) left.2
numbered_after start (Rename ∷ earlier) c left =
    let before = numbered_after start earlier left.0 left.1 in
    numbered_renames renamed (next_number earlier) (next_number (Rename ∷ earlier)) _ left.0 c (omega arith) before
    (numbered_more (next_number earlier) _ _ (omega arith) (numbered_renamed _ left.0 before)) left.2
numbered_after start (SyncFolder ∷ earlier) c left = numbered_more (next_number earlier) _ c (omega arith) (numbered_after start earlier c left.0)

pub may_changed : (step : List ℕ → List ℕ → Type 0) (change : List ℕ → List ℕ) → ((b : List ℕ) → step b (change b)) → (now : Option File)
    → MayStep step now now (with_file_bytes change now)
may_changed step change takes None = inl refl
may_changed step change takes (Some file) =
    inr (record { number = file.number; before = file.bytes; after = change file.bytes; is_now = refl; was = refl; is = refl; took = takes file.bytes })

-- a step that is taken whole
pub changed_whole : (step : List ℕ → List ℕ → Type 0) (change : List ℕ → List ℕ) → ((b : List ℕ) → step b (change b)) → (role : Role) (now : Files)
    → Changes role step now now (put_at now role (with_file_bytes change (file_at now role)))
changed_whole step change takes Main now = (may_changed step change takes now.main, refl, inl refl)
changed_whole step change takes Journal now = (refl, may_changed step change takes now.journal, refl)
changed_whole step change takes Fresh now = (refl, refl, may_changed step change takes now.fresh)

-- a step that is not taken
pub changes_none : (step : List ℕ → List ℕ → Type 0) (role : Role) (now c : Files) → Changes role step now c c
changes_none step Main now c = (inl refl, refl, inl refl)
changes_none step Journal now c = (refl, inl refl, refl)
changes_none step Fresh now c = (refl, refl, inl refl)

pub same_names : (now : Files) → SameNames now now
same_names now = record { main = refl; journal = refl; fresh = refl }

pub same_file : (file other : Option File) → AreApart file other → IsAsRead file other
same_file None None apart same = refl
same_file None (Some f) apart same = cc
same_file (Some m) None apart same = cc
same_file (Some m) (Some f) apart same = absurd (apart m.number refl same)

apart_back : (file other : Option File) → AreApart file other → AreApart other file
apart_back file other apart n is too = apart n too is

pub synced_now : (role : Role) (next : ℕ) (now : Files) → IsNumbered next now → HasSynced role now now
synced_now Main next now numbered =
    record {
      main = λ same. refl;
      journal = same_file now.main now.journal numbered.main_journal;
      fresh = same_file now.main now.fresh numbered.main_fresh;
    }
synced_now Journal next now numbered =
    record {
      main = same_file now.journal now.main (apart_back now.main now.journal numbered.main_journal);
      journal = λ same. refl;
      fresh = same_file now.journal now.fresh numbered.journal_fresh;
    }
synced_now Fresh next now numbered =
    record {
      main = same_file now.fresh now.main (apart_back now.main now.fresh numbered.main_fresh);
      journal = same_file now.fresh now.journal (apart_back now.journal now.fresh numbered.journal_fresh);
      fresh = λ same. refl;
    }

reads_step : (call : Call) (number next : ℕ) (now : Files) (images : Files → Type 0) → images now → IsNumbered next now
    → LeftBy call number now images (after call number now)
reads_step (Write role at bytes) number next now images is numbered =
    (now, is, changed_whole (Torn at (length bytes.items)) (written at bytes.items) (torn_written at bytes.items) role now)
reads_step (Cut role len) number next now images is numbered = (now, is, changed_whole (Shorter len) (take len) (shorter_cut len) role now)
reads_step (Sync role) number next now images is numbered = (is, synced_now role next now numbered)
reads_step (Create role) number next now images is numbered = (now, is, inr (same_names now, refl))
reads_step (Remove role) number next now images is numbered = (now, is, inr (same_names now, refl))
reads_step Rename number next now images is numbered = (now, is, inr (same_names now, refl))
reads_step SyncFolder number next now images is numbered = (is, same_names now)

-- what is read is an image
pub reads_now_after : (start : Contents) (calls : List Call) → ImagesAfter (files_of start) calls (reads_after (files_of start) calls)
reads_now_after start [] = refl
reads_now_after start (call ∷ earlier) =
    let before = reads_now_after start earlier in
    reads_step call (next_number earlier) (next_number earlier) (reads_after (files_of start) earlier)
    (ImagesAfter (files_of start) earlier) before (numbered_after start earlier _ before)

-- the same over the calls in the order in which they were made
pub reads_now_reversed : (start : Contents) (calls : List Call)
    → ImagesAfter (files_of start) (newest_first calls) (reads_after (files_of start) (newest_first calls))
reads_now_reversed start calls = reads_now_after start (newest_first calls)

pub counts_now_reversed : (start : Contents) (calls : List Call) (t : ℕ) (c : Files) → t ≤ length calls
    → ImagesAfter (files_of start) (newest_first calls) c → SinceAfter (files_of start) (newest_first calls) t c
counts_now_reversed start calls t c le now = counts_now_after (files_of start) (newest_first calls) t c (omega (arith, length-reverse calls)) now

pub only_now_reversed : (start : Contents) (calls : List Call) (c : Files)
    → SinceAfter (files_of start) (newest_first calls) (length calls) c → ImagesAfter (files_of start) (newest_first calls) c
only_now_reversed start calls c left = only_now_after (files_of start) (newest_first calls) (length calls) c (omega (arith, length-reverse calls)) left

pub numbered_reversed : (start : Contents) (calls : List Call) (c : Files) → ImagesAfter (files_of start) (newest_first calls) c
    → IsNumbered (next_number calls) c
numbered_reversed start calls c left =
    numbered_more (next_number (newest_first calls)) (next_number calls) c (omega (arith, length-reverse calls))
    (numbered_after start (newest_first calls) c left)
