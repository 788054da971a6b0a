-- A database that was made, or not: what is answered, and what the disk shows of it.
use Rattle.std.proofs.Common.{◌≡◌, ◌⊎◌, ⊎_elim, inl, inr, ◌≤◌, ◌<◌, ◌||◌, ℕ, Bool, true, false, is_some, List, [], ◌∷◌, Option, Some, None, Result, Ok, Err, if◌then◌else◌, refl, sym, ap, subst, ◌∙◌, arith}
use Rattle.std.specs.List.{Contains}
use Rattle.cipher_profile.specs.declared.profile.Profile.{Profile}
use Rattle.cipher_profile.specs.Profile.{usable}
use Rattle.db_maker.specs.Pages.{made_pages}
use Rattle.db_maker.specs.Rows.{total_len}
use Rattle.fresh_disk.specs.Published.{IsAlone}
use Rattle.edge_model.specs.Files.{Files, bytes_of, main_of}
use Rattle.edge_model.specs.Images.{Each, From, LeavesOnly}
use Rattle.edge_model.specs.Moments.{weaker}
use Rattle.fresh_disk.specs.OnlyFresh.{IsOld}
use Rattle.edge_model.specs.OnlyRead.{OnlyRead}
use Rattle.make_job.specs.Free.{HasNeither, is_at_exit, may_be, never}
use Rattle.fresh_disk.specs.Place.{LeavesOld, MayTakePlace, TakesPlace}
use Rattle.fresh_file.specs.State.{most_pages}
use Rattle.make_job.specs.Stops.{in_the_way, is_make_refusal}
use Rattle.make_job.specs.declared.error.MakeError.{MakeError}
use Rattle.make_job.specs.declared.error.MakeError.TheVariants.{FileThere as MainStands, JournalThere as JournalStands, TooManyPages as PagesEnd, DiskFault as DiskFails, EntropyFault as DrawFails, OutOfMemory as MemoryEnds}
use Rattle.sqlcipher_tool.specs.Answer.{Answer, done, refused}
use Rattle.sqlcipher_tool.specs.Change.{Commits, IsLateChange, KeepsOld, KeepsOrCommits, change_answer, change_status}
use Rattle.sqlcipher_tool.specs.Crash.{HasNoMain, SameJournal, Stays}
use Rattle.sqlcipher_tool.specs.Holding.{disk_run}
use Rattle.sqlcipher_tool.specs.Make.{has_main_or_journal, made_answers, make_answers, make_error}
use Rattle.sqlcipher_tool.specs.Text.{made_report}
use Rattle.sqlcipher_tool.specs.declared.opening.ChangeError.TheVariants.{Stopped, EntropyFault as EntropyFails}
use Rattle.sqlcipher_tool.specs.declared.opening.Stop.TheVariants.{DiskFault as StopDisk}
use Rattle.sqlcipher_tool.specs.declared.status.Refusal.TheVariants.{FileThere, JournalThere, TooManyPages}
use Rattle.sqlcipher_tool.specs.declared.status.Status.{Status}
use Rattle.sqlcipher_tool.specs.declared.status.Status.TheVariants.{Done, DiskFault}
use Rattle.sqlcipher_tool.proofs.Changing.{commits_done, commits_failed, error_not_done, read_only}
use Rattle.sqlcipher_tool.proofs.Migrating.{above_due}
use Rattle.sqlcipher_tool.proofs.Numbers.{lt_true}
use Rattle.sqlcipher_tool.proofs.Verified.{some_is}

-- ---- what is answered

-- by whether there is a Main and a Journal
abbrev answers_at : Bool → Bool → Profile → ℕ → List Answer
answers_at main journal profile rows =
    if main then refused FileThere ∷ [] else (if journal then refused JournalThere ∷ [] else made_answers profile rows)

abbrev way_at : Bool → Bool → Option MakeError
way_at main journal = if main then Some MainStands else (if journal then Some JournalStands else None)

main_due : (m j : Bool) (profile : Profile) (rows : ℕ) → way_at m j ≡ Some MainStands → Contains (answers_at m j profile rows) (refused FileThere)
main_due true j profile rows is = (0, omega arith, refl)
main_due false true profile rows is = cc
main_due false false profile rows is = cc

journal_due : (m j : Bool) (profile : Profile) (rows : ℕ) → way_at m j ≡ Some JournalStands → Contains (answers_at m j profile rows) (refused JournalThere)
journal_due true j profile rows is = cc
journal_due false true profile rows is = (0, omega arith, refl)
journal_due false false profile rows is = cc

free_due : (m j : Bool) (profile : Profile) (rows : ℕ) (answer : Answer) → way_at m j ≡ None → Contains (made_answers profile rows) answer → Contains (answers_at m j profile rows) answer
free_due true j profile rows answer is due = cc
free_due false true profile rows answer is due = cc
free_due false false profile rows answer is due = due

-- what was answered where a file is in the way is that, or a fault of the disk
module _ {T : Type 0} (result : Result T MakeError) where
  abbrev Stands : Bool → Bool → Type 0
  Stands m j = (e : MakeError) → way_at m j ≡ Some e → (result ≡ Err e) ⊎ (result ≡ Err DiskFails)

  -- another answer says that none is
  none_stands : (m j : Bool) → (result ≡ Err MainStands → ⊥) → (result ≡ Err JournalStands → ⊥) → (result ≡ Err DiskFails → ⊥) → Stands m j → way_at m j ≡ None
  none_stands true j main journal disk stands = absurd (⊎_elim main disk (stands MainStands refl))
  none_stands false true main journal disk stands = absurd (⊎_elim journal disk (stands JournalStands refl))
  none_stands false false main journal disk stands = refl

ok_differs : {T : Type 0} (result : Result T MakeError) (made : T) (e : MakeError) → result ≡ Ok made → result ≡ Err e → ⊥
ok_differs result made e is other = cc

err_same : {T : Type 0} (result : Result T MakeError) (e f : MakeError) → result ≡ Err e → result ≡ Err f → e ≡ f
err_same result e f is other = cc

not_main : (limit : ℕ) → PagesEnd limit ≡ MainStands → ⊥
not_main limit is = cc

not_journal : (limit : ℕ) → PagesEnd limit ≡ JournalStands → ⊥
not_journal limit is = cc

not_disk : (limit : ℕ) → PagesEnd limit ≡ DiskFails → ⊥
not_disk limit is = cc

-- what was made is one of the answers
pub made_due : {T : Type 0} (result : Result T MakeError) (made : T) (files : Files) (profile : Profile) (rows given bytes : ℕ) → result ≡ Ok made
    → ((e : MakeError) → in_the_way files ≡ Some e → (result ≡ Err e) ⊎ (result ≡ Err DiskFails)) → given ≡ rows → bytes ≡ total_len rows
    → (answer : Answer) → change_answer (Ok (made_report given bytes)) ≡ Some answer → Contains (make_answers profile rows files) answer
made_due result made files profile rows given bytes is stands one two answer same =
    free_due (is_some files.main) (is_some files.journal) profile rows answer
    (none_stands result (is_some files.main) (is_some files.journal) (ok_differs result made MainStands is) (ok_differs result made JournalStands is) (ok_differs result made DiskFails is) stands)
    (0, omega arith, (ap (λ (n : ℕ). done (made_report n (total_len rows))) (sym one) ∙ ap (λ (n : ℕ). done (made_report given n)) (sym two)) ∙ some_is _ answer same)

-- and so is why nothing was
pub unmade_due : {T : Type 0} (result : Result T MakeError) (e : MakeError) (files : Files) (profile : Profile) (rows : ℕ) → result ≡ Err e
    → ((e : MakeError) → in_the_way files ≡ Some e → (result ≡ Err e) ⊎ (result ≡ Err DiskFails)) → (is_make_refusal e ≡ true → in_the_way files ≡ Some e)
    → ((limit : ℕ) → result ≡ Err (PagesEnd limit) → (limit ≡ most_pages profile) × (most_pages profile < made_pages (usable profile) rows))
    → (answer : Answer) → change_answer (Err (make_error e)) ≡ Some answer → Contains (make_answers profile rows files) answer
unmade_due result MainStands files profile rows is stands there most answer same =
    subst (λ (a : Answer). Contains (make_answers profile rows files) a) (some_is (refused FileThere) answer same) (main_due (is_some files.main) (is_some files.journal) profile rows (there refl))
unmade_due result JournalStands files profile rows is stands there most answer same =
    subst (λ (a : Answer). Contains (make_answers profile rows files) a) (some_is (refused JournalThere) answer same) (journal_due (is_some files.main) (is_some files.journal) profile rows (there refl))
unmade_due result (PagesEnd limit) files profile rows is stands there most answer same =
    free_due (is_some files.main) (is_some files.journal) profile rows answer
    (none_stands result (is_some files.main) (is_some files.journal) (λ other. not_main limit (err_same result (PagesEnd limit) MainStands is other))
    (λ other. not_journal limit (err_same result (PagesEnd limit) JournalStands is other)) (λ other. not_disk limit (err_same result (PagesEnd limit) DiskFails is other)) stands)
    (subst (λ (a : Answer). Contains (made_answers profile rows) a) (ap (λ (n : ℕ). refused (TooManyPages n)) (sym (most limit is).0) ∙ some_is (refused (TooManyPages limit)) answer same)
    (above_due (most_pages profile) (done (made_report rows (total_len rows))) _ (lt_true (most_pages profile) (made_pages (usable profile) rows) (most limit is).1)))
unmade_due result DiskFails files profile rows is stands there most answer same = cc
unmade_due result DrawFails files profile rows is stands there most answer same = cc
unmade_due result MemoryEnds files profile rows is stands there most answer same = cc

-- a file in the way
pub stands_some : (files : Files) → has_main_or_journal files ≡ true → (e : MakeError) × (in_the_way files ≡ Some e)
stands_some files is = by_files (is_some files.main) (is_some files.journal) is
  where
    by_files : (m j : Bool) → (m || j) ≡ true → (e : MakeError) × (way_at m j ≡ Some e)
    by_files true j is = (MainStands, refl)
    by_files false true is = (JournalStands, refl)
    by_files false false is = cc

pub make_late : (e : MakeError) → IsLateChange (make_error e)
make_late MainStands = refl
make_late JournalStands = refl
make_late (PagesEnd limit) = refl
make_late DiskFails = tt
make_late DrawFails = tt
make_late MemoryEnds = tt

pub make_disk : (e : MakeError) → make_error e ≡ Stopped StopDisk → e ≡ DiskFails
make_disk MainStands is = cc
make_disk JournalStands is = cc
make_disk (PagesEnd limit) is = cc
make_disk DiskFails is = refl
make_disk DrawFails is = cc
make_disk MemoryEnds is = cc

pub make_entropy : (e : MakeError) → make_error e ≡ EntropyFails → e ≡ DrawFails
make_entropy MainStands is = cc
make_entropy JournalStands is = cc
make_entropy (PagesEnd limit) is = cc
make_entropy DiskFails is = cc
make_entropy DrawFails is = refl
make_entropy MemoryEnds is = cc

-- ---- the disk

-- a file is in the way
pub read_stays : {D : Type 0} (reads : D → Files) (images : D → Files → Type 0) (moment : D → ℕ) (since : D → ℕ → Files → Type 0)
    (counts_now : (disk : D) (t : ℕ) (c : Files) → t ≤ moment disk → images disk c → since disk t c)
    (only_now : (disk : D) (c : Files) → since disk (moment disk) c → images disk c) {old new : D} → OnlyRead reads images moment since old new
    → Stays (disk_run reads images moment since old new)
read_stays reads images moment since counts_now only_now {old} read = record {
  reads = read.stays;
  no_more = (read_only reads images moment since counts_now only_now {P = images old} (λ c now. now) read).each;
  no_fewer = λ c was. read.same_images.no_fewer c was;
}

-- Journal is as in an image at the start, whether a file was made or not
pub same_journal : {D : Type 0} {reads : D → Files} {images : D → Files → Type 0} {moment : D → ℕ} {since : D → ℕ → Files → Type 0} {is_new : List ℕ → Type 0} {old new : D}
    → LeavesOld reads images moment since old new ⊎ MayTakePlace images moment since is_new old new → LeavesOnly moment since old new (From SameJournal (images old))
same_journal {images = images} {old = old} may = ⊎_elim
    (λ was. weaker (as_old (images old)) was.any_moment)
    (λ has. weaker (λ c is. ⊎_elim (as_old (images old) c) (λ at. (at.was, at.is_image, at.journal)) is) has.any_moment) may
  where
    as_old : (images : Files → Type 0) (c : Files) → IsOld images c → From SameJournal images c
    as_old images c from = (from.0, from.1, from.2.journal)

-- of the file that has taken Main's place holds what holds of Main
pub place_with : {D : Type 0} {reads : D → Files} {images : D → Files → Type 0} {moment : D → ℕ} {since : D → ℕ → Files → Type 0} {is_new : List ℕ → Type 0} {old new : D} (own : List ℕ → Type 0)
    → TakesPlace reads images moment since is_new old new → own (main_of (reads new)) → TakesPlace reads images moment since (λ file. is_new file × own file) old new
place_with own there has = record {
  may = record { file = there.may.file; is = (there.may.is, subst own (ap (λ (files : Files). main_of files) there.reads_so) has); any_moment = there.may.any_moment };
  reads_so = there.reads_so;
  at_exit = there.at_exit;
}

-- no image at the start has a Main or a Journal
module _ {D : Type 0} (reads : D → Files) (images : D → Files → Type 0) (moment : D → ℕ) (since : D → ℕ → Files → Type 0)
    (counts_now : (disk : D) (t : ℕ) (c : Files) → t ≤ moment disk → images disk c → since disk t c)
    (only_now : (disk : D) (c : Files) → since disk (moment disk) c → images disk c) {old new : D} (free : Each (images old) HasNeither) where
  -- there is none
  none_there : (status : Status) → (status ≡ Done → ⊥) → LeavesOld reads images moment since old new → KeepsOld moment since status HasNoMain old new
  none_there status never_done stays = record { any_moment = never free stays; not_done = never_done }

  -- it was made
  pub made_there : {is_new : List ℕ → Type 0} → TakesPlace reads images moment since is_new old new → Commits reads images moment since Done is_new HasNoMain IsAlone old new
  made_there {is_new} there = commits_done reads images moment since counts_now only_now there.may.file.bytes there.may.is
      (may_be {images = images} free {is_new = is_new} there.may)
      (λ c here. let now = is_at_exit free there c here in (now, now.journal))
      (ap (λ (f : Files). bytes_of f.main) there.reads_so)

  pub unmade_there : {is_new : List ℕ → Type 0} (e : MakeError) → ((e ≡ DiskFails → ⊥) → LeavesOld reads images moment since old new)
      → LeavesOld reads images moment since old new ⊎ MayTakePlace images moment since is_new old new
      → KeepsOrCommits reads images moment since (change_status (Err (make_error e))) is_new HasNoMain IsAlone old new
  unmade_there {is_new} DiskFails stays may = ⊎_elim (λ was. inl (none_there DiskFault (error_not_done (make_error DiskFails)) was))
      (λ has. inr (commits_failed reads images moment since counts_now only_now has.file.bytes has.is (may_be {images = images} free {is_new = is_new} has))) may
  unmade_there MainStands stays may = inl (none_there _ (error_not_done (make_error MainStands)) (stays (λ is. cc)))
  unmade_there JournalStands stays may = inl (none_there _ (error_not_done (make_error JournalStands)) (stays (λ is. cc)))
  unmade_there (PagesEnd limit) stays may = inl (none_there _ (error_not_done (make_error (PagesEnd limit))) (stays (λ is. cc)))
  unmade_there DrawFails stays may = inl (none_there _ (error_not_done (make_error DrawFails)) (stays (λ is. cc)))
  unmade_there MemoryEnds stays may = inl (none_there _ (error_not_done (make_error MemoryEnds)) (stays (λ is. cc)))
