-- In an image of a disk in memory a file may be as it reads, whatever the other files are.
use Rattle.std.proofs.Common.{◌≡◌, ◌⊎◌, ⊎_elim, inl, inr, ℕ, ◌<◌, List, [], ◌∷◌, length, take, Option, Some, None, refl, sym, ◌∙◌, ap, subst, arith}
use Rattle.edge_model.specs.Files.{File, Files, file_at, put_at, number_of, with_file_bytes, empty_file, written, created, removed, renamed, Torn, Shorter}
use Rattle.edge_model.specs.Images.{Changes, Renames, HasSynced, SameNames, AreApart, IsNumbered}
use Rattle.edge_model.specs.Bytes.{torn_written, shorter_cut}
use Rattle.edge_memory.specs.Log.{files_of, next_number, reads_after, ImagesAfter}
use Rattle.edge_memory.specs.LogLaws.{may_changed, changes_names, changed_whole, synced_now, numbered_after, numbered_start, reads_now_after, same_file}
use Rattle.edge_memory.specs.declared.mem_disk.contents.Contents.{Contents}
use Rattle.edge_memory.specs.declared.mem_disk.contents.Call.{Call}
use Rattle.edge_memory.specs.declared.mem_disk.contents.Call.TheVariants.{Write, Cut, Sync, Create, Remove, Rename, SyncFolder}
use Rattle.edge_model.specs.declared.role.Role.{Role}
use Rattle.edge_model.specs.declared.role.Role.TheVariants.{Main, Journal, Fresh}

pub put_same : (c : Files) (role : Role) (file : Option File) → file_at c role ≡ file → put_at c role file ≡ c
put_same c Main file is = ap (λ (f : Option File). put_at c Main f) (sym is)
put_same c Journal file is = ap (λ (f : Option File). put_at c Journal f) (sym is)
put_same c Fresh file is = ap (λ (f : Option File). put_at c Fresh f) (sym is)

-- neither is there
pub both_none : (file other : Option File) → number_of file ≡ number_of other → other ≡ None → file ≡ other
both_none None other same none = sym none
both_none (Some f) None same none = cc
both_none (Some f) (Some g) same none = cc

names_put : (role : Role) (now d : Files) (file : Option File) → SameNames now d → number_of file ≡ number_of (file_at d role)
    → SameNames now (put_at d role file)
names_put Main now d file names same = record { main = same ∙ names.main; journal = names.journal; fresh = names.fresh }
names_put Journal now d file names same = record { main = names.main; journal = same ∙ names.journal; fresh = names.fresh }
names_put Fresh now d file names same = record { main = names.main; journal = names.journal; fresh = same ∙ names.fresh }

-- a change of names leaves the role alone
record Spares (change : Files → Files) (role : Role) : Type 0 where
  keeps : (x : Files) → file_at (change x) role ≡ file_at x role
  commutes : (x : Files) (file : Option File) → put_at (change x) role file ≡ change (put_at x role file)

created_spares : (role other : Role) (number : ℕ) → (role ≡ other) ⊎ Spares (created other number) role
created_spares Main Main number = inl refl
created_spares Main Journal number = inr (record { keeps = λ x. refl; commutes = λ x file. refl })
created_spares Main Fresh number = inr (record { keeps = λ x. refl; commutes = λ x file. refl })
created_spares Journal Main number = inr (record { keeps = λ x. refl; commutes = λ x file. refl })
created_spares Journal Journal number = inl refl
created_spares Journal Fresh number = inr (record { keeps = λ x. refl; commutes = λ x file. refl })
created_spares Fresh Main number = inr (record { keeps = λ x. refl; commutes = λ x file. refl })
created_spares Fresh Journal number = inr (record { keeps = λ x. refl; commutes = λ x file. refl })
created_spares Fresh Fresh number = inl refl

removed_spares : (role other : Role) → (role ≡ other) ⊎ Spares (removed other) role
removed_spares Main Main = inl refl
removed_spares Main Journal = inr (record { keeps = λ x. refl; commutes = λ x file. refl })
removed_spares Main Fresh = inr (record { keeps = λ x. refl; commutes = λ x file. refl })
removed_spares Journal Main = inr (record { keeps = λ x. refl; commutes = λ x file. refl })
removed_spares Journal Journal = inl refl
removed_spares Journal Fresh = inr (record { keeps = λ x. refl; commutes = λ x file. refl })
removed_spares Fresh Main = inr (record { keeps = λ x. refl; commutes = λ x file. refl })
removed_spares Fresh Journal = inr (record { keeps = λ x. refl; commutes = λ x file. refl })
removed_spares Fresh Fresh = inl refl

created_here : (role : Role) (number : ℕ) (now : Files) → file_at (created role number now) role ≡ empty_file number
created_here Main number now = refl
created_here Journal number now = refl
created_here Fresh number now = refl

removed_here : (role : Role) (now : Files) → file_at (removed role now) role ≡ None
removed_here Main now = refl
removed_here Journal now = refl
removed_here Fresh now = refl

names_at : (role : Role) (now c : Files) → SameNames now c → number_of (file_at c role) ≡ number_of (file_at now role)
names_at Main now c names = names.main
names_at Journal now c names = names.journal
names_at Fresh now c names = names.fresh

numbered_at : (role : Role) (next : ℕ) (d : Files) → IsNumbered next d → (n : ℕ) → number_of (file_at d role) ≡ Some n → n < next
numbered_at Main next d numbered n is = numbered.main n is
numbered_at Journal next d numbered n is = numbered.journal n is
numbered_at Fresh next d numbered n is = numbered.fresh n is

-- the image with one role as it reads has synced what it had, where what is read has
synced_put : (role other : Role) (now c : Files) → HasSynced other now now → HasSynced other now c → HasSynced other now (put_at c role (file_at now role))
synced_put Main other now c reads image = record { main = reads.main; journal = image.journal; fresh = image.fresh }
synced_put Journal other now c reads image = record { main = image.main; journal = reads.journal; fresh = image.fresh }
synced_put Fresh other now c reads image = record { main = image.main; journal = image.journal; fresh = reads.fresh }

-- a change of other names goes on
renames_put : (change : Files → Files) (role : Role) (now d c : Files) (file : Option File) → number_of file ≡ number_of (file_at d role)
    → ((x : Files) → put_at (change x) role file ≡ change (put_at x role file))
    → Renames change now d c → Renames change now (put_at d role file) (put_at c role file)
renames_put change role now d c file same commutes (inl stays) = inl (ap (λ (x : Files). put_at x role file) stays)
renames_put change role now d c file same commutes (inr made) =
    inr (names_put role now d file made.0 same, ap (λ (x : Files). put_at x role file) made.1 ∙ commutes d)

-- the number in a role, in an image and in the one that it comes from
renames_number : (change : Files → Files) (role : Role) (now d c : Files) → ((x : Files) → file_at (change x) role ≡ file_at x role)
    → Renames change now d c → number_of (file_at c role) ≡ number_of (file_at d role)
renames_number change role now d c keeps (inl stays) = ap (λ (x : Files). number_of (file_at x role)) stays
renames_number change role now d c keeps (inr made) = ap (λ (x : Files). number_of (file_at x role)) made.1 ∙ ap number_of (keeps d)

module _ (step : List ℕ → List ℕ → Type 0) (change : List ℕ → List ℕ) (takes : (b : List ℕ) → step b (change b)) where
  -- a change of bytes goes on, with one role as it reads
  role_changes : (role other : Role) (now d c : Files) → Changes other step now d c
      → Changes other step now (put_at d role (file_at now role)) (put_at c role (file_at (put_at now other (with_file_bytes change (file_at now other))) role))
  role_changes Main Main now d c ch = (may_changed step change takes now.main, ch.1, ch.2)
  role_changes Main Journal now d c ch = (refl, ch.1, ch.2)
  role_changes Main Fresh now d c ch = (refl, ch.1, ch.2)
  role_changes Journal Main now d c ch = (ch.0, refl, ch.2)
  role_changes Journal Journal now d c ch = (ch.0, may_changed step change takes now.journal, ch.2)
  role_changes Journal Fresh now d c ch = (ch.0, refl, ch.2)
  role_changes Fresh Main now d c ch = (ch.0, ch.1, inl refl)
  role_changes Fresh Journal now d c ch = (ch.0, ch.1, refl)
  role_changes Fresh Fresh now d c ch = (ch.0, ch.1, may_changed step change takes now.fresh)

  -- where Fresh in the image is what Main is now
  moved_changes : (role : Role) (now d c : Files) → Changes role step now d c
      → Changes role step now (put_at d Fresh now.main) (put_at c Fresh (put_at now role (with_file_bytes change (file_at now role))).main)
  moved_changes Main now d c ch = (ch.0, ch.1, may_changed step change takes now.main)
  moved_changes Journal now d c ch = (ch.0, ch.1, refl)
  moved_changes Fresh now d c ch = (ch.0, ch.1, inl refl)

  now_names : (role : Role) (now : Files) → SameNames now (put_at now role (with_file_bytes change (file_at now role)))
  now_names role now =
      changes_names step role now now (put_at now role (with_file_bytes change (file_at now role))) (changed_whole step change takes role now)

-- the file that was created has its number
made_here : (role : Role) (next : ℕ) (now d c : Files) → IsNumbered next d
    → Renames (created role next) now d c → number_of (file_at c role) ≡ Some next → file_at c role ≡ empty_file next
made_here role next now d c numbered (inl stays) same =
    absurd (let lt = numbered_at role next d numbered next (sym (ap (λ (x : Files). number_of (file_at x role)) stays) ∙ same) in omega arith)
made_here role next now d c numbered (inr made) same = ap (λ (x : Files). file_at x role) made.1 ∙ created_here role next d

module _ (start : Contents) where
  abbrev Images : List Call → Files → Type 0
  Images calls = ImagesAfter (files_of start) calls

  abbrev Reads : List Call → Files
  Reads calls = reads_after (files_of start) calls

  numbers : (calls : List Call) → IsNumbered (next_number calls) (reads_after (files_of start) calls)
  numbers calls = numbered_after start calls _ (reads_now_after start calls)

  -- an image in which the role's file is the one that is read is one with its bytes as read, too
  abbrev AsRead : Role → List Call → Type 0
  AsRead role calls =
      (c : Files) → ImagesAfter (files_of start) calls c → number_of (file_at c role) ≡ number_of (file_at (reads_after (files_of start) calls) role)
      → ImagesAfter (files_of start) calls (put_at c role (file_at (reads_after (files_of start) calls) role))

  past_bytes : (step : List ℕ → List ℕ → Type 0) (change : List ℕ → List ℕ) (takes : (b : List ℕ) → step b (change b)) (role other : Role) (earlier : List Call)
      → AsRead role earlier → (c : Files) → (left : (d : Files) × Images earlier d × Changes other step (Reads earlier) d c)
      → number_of (file_at c role) ≡ number_of (file_at (put_at (Reads earlier) other (with_file_bytes change (file_at (Reads earlier) other))) role)
      → (d : Files) × Images earlier d
      × Changes other step (Reads earlier) d
      (put_at c role (file_at (put_at (Reads earlier) other (with_file_bytes change (file_at (Reads earlier) other))) role))
  past_bytes step change takes role other earlier before c left same =
      let now = Reads earlier in
      let names = names_at role _ _ (changes_names step other now left.0 c left.2) in
      let mine = names_at role _ _ (now_names step change takes other now) in
      (put_at left.0 role (file_at now role), before left.0 left.1 (sym names ∙ same ∙ mine), role_changes step change takes role other now left.0 c left.2)

  past_names : (change : Files → Files) (role : Role) (earlier : List Call) → Spares change role
      → AsRead role earlier → (c : Files) → (left : (d : Files) × Images earlier d × Renames change (Reads earlier) d c)
      → number_of (file_at c role) ≡ number_of (file_at (change (Reads earlier)) role)
      → (d : Files) × Images earlier d × Renames change (Reads earlier) d (put_at c role (file_at (change (Reads earlier)) role))
  past_names change role earlier spares before c left same =
      let now = Reads earlier in
      let n = renames_number change role now left.0 c spares.keeps left.2 in
      let is = same ∙ ap number_of (spares.keeps now) in
      let put = renames_put change role now left.0 c (file_at now role) (sym is ∙ n) (λ x. spares.commutes x (file_at now role)) left.2 in
      subst (λ (f : Option File). (d : Files) × Images earlier d × Renames change now d (put_at c role f)) (sym (spares.keeps now))
      (put_at left.0 role (file_at now role), before left.0 left.1 (sym n ∙ is), put)

  -- a file that was created or removed in the role is already as it reads
  created_as_read : (role : Role) (earlier : List Call) (c : Files) → Images (Create role ∷ earlier) c
      → number_of (file_at c role) ≡ number_of (file_at (created role (next_number earlier) (Reads earlier)) role)
      → Images (Create role ∷ earlier) (put_at c role (file_at (created role (next_number earlier) (Reads earlier)) role))
  created_as_read role earlier c left same =
      let next = next_number earlier in
      let here = created_here role next (Reads earlier) in
      let made = made_here role next (Reads earlier) left.0 c (numbered_after start earlier left.0 left.1) left.2 (same ∙ ap number_of here) in
      subst (Images (Create role ∷ earlier)) (sym (put_same c role _ (made ∙ sym here))) left

  removed_as_read : (role : Role) (earlier : List Call) (c : Files) → Images (Remove role ∷ earlier) c
      → number_of (file_at c role) ≡ number_of (file_at (removed role (Reads earlier)) role)
      → Images (Remove role ∷ earlier) (put_at c role (file_at (removed role (Reads earlier)) role))
  removed_as_read role earlier c left same =
      subst (Images (Remove role ∷ earlier)) (sym (put_same c role _ (both_none (file_at c role) _ same (removed_here role (Reads earlier))))) left

  -- no image has under Main the file that reads as Fresh
  pub main_is_not_fresh : (calls : List Call) (c : Files) → ImagesAfter (files_of start) calls c → AreApart (reads_after (files_of start) calls).fresh c.main
  main_is_not_fresh [] c left n is too = (numbered_start start).main_fresh n (sym (ap (λ (d : Files). number_of d.main) left) ∙ too) is
  main_is_not_fresh (Write role at bytes ∷ earlier) c left n is too =
      let now = reads_after (files_of start) earlier in
      main_is_not_fresh earlier left.0 left.1 n
      (sym (now_names (Torn at (length bytes.items)) (written at bytes.items) (torn_written at bytes.items) role now).fresh ∙ is)
      (sym (changes_names _ role now left.0 c left.2).main ∙ too)
  main_is_not_fresh (Cut role len ∷ earlier) c left n is too =
      let now = reads_after (files_of start) earlier in
      main_is_not_fresh earlier left.0 left.1 n (sym (now_names (Shorter len) (take len) (shorter_cut len) role now).fresh ∙ is)
      (sym (changes_names _ role now left.0 c left.2).main ∙ too)
  main_is_not_fresh (Sync role ∷ earlier) c left n is too = main_is_not_fresh earlier c left.0 n is too
  main_is_not_fresh (Create Main ∷ earlier) c (d, i, inl stays) n is too =
      main_is_not_fresh earlier d i n is (sym (ap (λ (x : Files). number_of x.main) stays) ∙ too)
  main_is_not_fresh (Create Main ∷ earlier) c (d, i, inr made) n is too =
      let lt = (numbers earlier).fresh n is in
      let e : Some (next_number earlier) ≡ Some n = sym (ap (λ (x : Files). number_of x.main) made.1) ∙ too in
      let same : next_number earlier ≡ n = cc in
      omega (arith, lt, same)
  main_is_not_fresh (Create Journal ∷ earlier) c left n is too =
      main_is_not_fresh earlier left.0 left.1 n is (sym (renames_number (created Journal (next_number earlier)) Main _ left.0 c (λ x. refl) left.2) ∙ too)
  main_is_not_fresh (Create Fresh ∷ earlier) c left n is too =
      let lt =
      (numbered_after start earlier left.0 left.1).main n
      (sym (renames_number (created Fresh (next_number earlier)) Main _ left.0 c (λ x. refl) left.2) ∙ too) in
      let same : next_number earlier ≡ n = cc in
      omega (arith, lt, same)
  main_is_not_fresh (Remove Main ∷ earlier) c (d, i, inl stays) n is too =
      main_is_not_fresh earlier d i n is (sym (ap (λ (x : Files). number_of x.main) stays) ∙ too)
  main_is_not_fresh (Remove Main ∷ earlier) c (d, i, inr made) n is too = let e : None ≡ Some n = sym (ap (λ (x : Files). number_of x.main) made.1) ∙ too in cc
  main_is_not_fresh (Remove Journal ∷ earlier) c left n is too =
      main_is_not_fresh earlier left.0 left.1 n is (sym (renames_number (removed Journal) Main _ left.0 c (λ x. refl) left.2) ∙ too)
  main_is_not_fresh (Remove Fresh ∷ earlier) c left n is too = cc
  main_is_not_fresh (Rename ∷ earlier) c left n is too = cc
  main_is_not_fresh (SyncFolder ∷ earlier) c left n is too = main_is_not_fresh earlier c left.0 n is too

  pub role_as_read : (role : Role) (calls : List Call) (c : Files) → ImagesAfter (files_of start) calls c
      → number_of (file_at c role) ≡ number_of (file_at (reads_after (files_of start) calls) role)
      → ImagesAfter (files_of start) calls (put_at c role (file_at (reads_after (files_of start) calls) role))
  role_as_read role [] c left same =
      ap (λ (d : Files). put_at d role (file_at (files_of start) role)) left ∙ put_same (files_of start) role _ refl
  role_as_read role (Write other at bytes ∷ earlier) c left same =
      past_bytes (Torn at (length bytes.items)) (written at bytes.items) (torn_written at bytes.items) role other earlier
      (role_as_read role earlier) c left same
  role_as_read role (Cut other len ∷ earlier) c left same =
      past_bytes (Shorter len) (take len) (shorter_cut len) role other earlier (role_as_read role earlier) c left same
  role_as_read role (Sync other ∷ earlier) c left same =
      (role_as_read role earlier c left.0 same, synced_put role other (Reads earlier) c (synced_now other _ (Reads earlier) (numbers earlier)) left.1)
  role_as_read role (Create other ∷ earlier) c left same =
      ⊎_elim
      (λ (here : role ≡ other). subst
      (λ (o : Role). Images (Create o ∷ earlier) c → number_of (file_at c role) ≡ number_of (file_at (created o (next_number earlier) (Reads earlier)) role)
      → Images (Create o ∷ earlier) (put_at c role (file_at (created o (next_number earlier) (Reads earlier)) role)))
      here (created_as_read role earlier c) left same)
      (λ spares. past_names (created other (next_number earlier)) role earlier spares (role_as_read role earlier) c left same)
      (created_spares role other (next_number earlier))
  role_as_read role (Remove other ∷ earlier) c left same =
      ⊎_elim
      (λ (here : role ≡ other). subst
      (λ (o : Role). Images (Remove o ∷ earlier) c → number_of (file_at c role) ≡ number_of (file_at (removed o (Reads earlier)) role)
      → Images (Remove o ∷ earlier) (put_at c role (file_at (removed o (Reads earlier)) role)))
      here (removed_as_read role earlier c) left same)
      (λ spares. past_names (removed other) role earlier spares (role_as_read role earlier) c left same)
      (removed_spares role other)
  role_as_read Journal (Rename ∷ earlier) c left same =
      past_names renamed Journal earlier (record { keeps = λ x. refl; commutes = λ x file. refl }) (role_as_read Journal earlier) c left same
  role_as_read Fresh (Rename ∷ earlier) c left same =
      subst (Images (Rename ∷ earlier)) (sym (put_same c Fresh None (both_none c.fresh None same refl))) left
  role_as_read Main (Rename ∷ earlier) c (d, i, inl stays) same =
      let now = Reads earlier in
      let same_now = sym (ap (λ (x : Files). number_of x.main) stays) ∙ same in
      let was : d.main ≡ now.fresh = same_file now.fresh d.main (main_is_not_fresh earlier d i) same_now in
      subst (Images (Rename ∷ earlier)) (sym (put_same c Main now.fresh (ap (λ (x : Files). x.main) stays ∙ was))) (d, i, inl stays)
  role_as_read Main (Rename ∷ earlier) c (d, i, inr made) same =
      let now = Reads earlier in
      let e : number_of c.main ≡ number_of d.fresh = ap (λ (x : Files). number_of x.main) made.1 in
      let names = names_put Fresh now d now.fresh made.0 (sym same ∙ e) in
      (put_at d Fresh now.fresh, role_as_read Fresh earlier d i (sym e ∙ same), inr (names, ap (λ (x : Files). put_at x Main now.fresh) made.1))
  role_as_read role (SyncFolder ∷ earlier) c left same =
      (role_as_read role earlier c left.0 same, names_put role (Reads earlier) c (file_at (Reads earlier) role) left.1 (sym same))

  -- the file that reads as Main, where an image has it under Fresh
  pub moved_as_read : (calls : List Call) (c : Files) → ImagesAfter (files_of start) calls c
      → number_of c.fresh ≡ number_of (reads_after (files_of start) calls).main
      → ImagesAfter (files_of start) calls (put_at c Fresh (reads_after (files_of start) calls).main)
  moved_as_read [] c left same =
      let none : c.fresh ≡ (files_of start).main =
      same_file (files_of start).main c.fresh
      (λ n is too. (numbered_start start).main_fresh n is (sym (ap (λ (d : Files). number_of d.fresh) left) ∙ too)) same in
      put_same c Fresh (files_of start).main none ∙ left
  moved_as_read (Write role at bytes ∷ earlier) c left same =
      let now = reads_after (files_of start) earlier in
      let names = changes_names _ role now left.0 c left.2 in
      let mine = now_names (Torn at (length bytes.items)) (written at bytes.items) (torn_written at bytes.items) role now in (
        put_at left.0 Fresh now.main,
        moved_as_read earlier left.0 left.1 (sym names.fresh ∙ same ∙ mine.main),
        moved_changes (Torn at (length bytes.items)) (written at bytes.items) (torn_written at bytes.items) role now left.0 c left.2,
      )
  moved_as_read (Cut role len ∷ earlier) c left same =
      let now = reads_after (files_of start) earlier in
      let names = changes_names _ role now left.0 c left.2 in
      let mine = now_names (Shorter len) (take len) (shorter_cut len) role now in (
        put_at left.0 Fresh now.main,
        moved_as_read earlier left.0 left.1 (sym names.fresh ∙ same ∙ mine.main),
        moved_changes (Shorter len) (take len) (shorter_cut len) role now left.0 c left.2,
      )
  moved_as_read (Sync role ∷ earlier) c left same =
      let now = reads_after (files_of start) earlier in
      (moved_as_read earlier c left.0 same, record { main = left.1.main; journal = left.1.journal; fresh = (synced_now role _ now (numbers earlier)).main })
  moved_as_read (Create Main ∷ earlier) c left same =
      let n = renames_number (created Main (next_number earlier)) Fresh _ left.0 c (λ x. refl) left.2 in
      let lt = (numbered_after start earlier left.0 left.1).fresh (next_number earlier) (sym n ∙ same) in
      absurd (omega (arith, lt))
  moved_as_read (Create Journal ∷ earlier) c left same =
      let now = reads_after (files_of start) earlier in
      let n = renames_number (created Journal (next_number earlier)) Fresh now left.0 c (λ x. refl) left.2 in (
        put_at left.0 Fresh now.main,
        moved_as_read earlier left.0 left.1 (sym n ∙ same),
        renames_put (created Journal (next_number earlier)) Fresh now left.0 c now.main (sym same ∙ n) (λ x. refl) left.2,
      )
  moved_as_read (Create Fresh ∷ earlier) c (d, i, inl stays) same =
      let now = reads_after (files_of start) earlier in (
        put_at d Fresh now.main,
        moved_as_read earlier d i (sym (ap (λ (x : Files). number_of x.fresh) stays) ∙ same),
        inl (ap (λ (x : Files). put_at x Fresh now.main) stays),
      )
  moved_as_read (Create Fresh ∷ earlier) c (d, i, inr made) same =
      let e : number_of (reads_after (files_of start) earlier).main ≡ Some (next_number earlier) = sym same ∙ ap (λ (x : Files). number_of x.fresh) made.1 in
      let lt = (numbers earlier).main (next_number earlier) e in
      absurd (omega (arith, lt))
  moved_as_read (Remove Main ∷ earlier) c left same =
      let now = reads_after (files_of start) earlier in
      subst (ImagesAfter (files_of start) (Remove Main ∷ earlier)) (sym (put_same c Fresh None (both_none c.fresh None same refl))) left
  moved_as_read (Remove Journal ∷ earlier) c left same =
      let now = reads_after (files_of start) earlier in
      let n = renames_number (removed Journal) Fresh now left.0 c (λ x. refl) left.2 in (
        put_at left.0 Fresh now.main,
        moved_as_read earlier left.0 left.1 (sym n ∙ same),
        renames_put (removed Journal) Fresh now left.0 c now.main (sym same ∙ n) (λ x. refl) left.2,
      )
  moved_as_read (Remove Fresh ∷ earlier) c (d, i, inl stays) same =
      let now = reads_after (files_of start) earlier in (
        put_at d Fresh now.main,
        moved_as_read earlier d i (sym (ap (λ (x : Files). number_of x.fresh) stays) ∙ same),
        inl (ap (λ (x : Files). put_at x Fresh now.main) stays),
      )
  moved_as_read (Remove Fresh ∷ earlier) c (d, i, inr made) same =
      let now = reads_after (files_of start) earlier in
      let gone : c.fresh ≡ None = ap (λ (x : Files). x.fresh) made.1 in
      subst (ImagesAfter (files_of start) (Remove Fresh ∷ earlier))
      (sym (put_same c Fresh now.main (sym (both_none now.main c.fresh (sym same) gone)))) (d, i, inr made)
  moved_as_read (Rename ∷ earlier) c (d, i, inl stays) same =
      let now = reads_after (files_of start) earlier in (
        put_at d Fresh now.fresh,
        role_as_read Fresh earlier d i (sym (ap (λ (x : Files). number_of x.fresh) stays) ∙ same),
        inl (ap (λ (x : Files). put_at x Fresh now.fresh) stays),
      )
  moved_as_read (Rename ∷ earlier) c (d, i, inr made) same =
      let now = reads_after (files_of start) earlier in
      let gone : c.fresh ≡ None = ap (λ (x : Files). x.fresh) made.1 in
      subst (ImagesAfter (files_of start) (Rename ∷ earlier))
      (sym (put_same c Fresh now.fresh (sym (both_none now.fresh c.fresh (sym same) gone)))) (d, i, inr made)
  moved_as_read (SyncFolder ∷ earlier) c left same =
      let now = reads_after (files_of start) earlier in
      (moved_as_read earlier c left.0 same, names_put Fresh now c now.main left.1 (sym same))
