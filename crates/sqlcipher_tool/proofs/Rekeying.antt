-- What `rekey` answers, and a transaction that seals every page under other keys, as its disk shows it.
use Rattle.std.proofs.Common.{◌≡◌, ◌⊎◌, ⊎_elim, inl, ◌≤◌, ◌<◌, ◌*◌, ◌+◌, ◌&&◌, ℕ, suc, zero, Bool, true, false, List, [], ◌∷◌, length, Option, Some, None, Ok, Err, refl, sym, ap, subst, ◌∙◌, arith, rules, if◌then◌else◌}
use Rattle.std.specs.Bool.{beq}
use Rattle.std.specs.Prelude.{◌==◌, nat_lt, unwrap_or}
use Rattle.std.specs.List.{Contains, filter}
use Rattle.std.proofs.lemmas.List.Elements.{Contains-append_left, Contains-append_right}
use Rattle.btree_model.specs.Parts.{first_faults, first_refusals, is_database, parts}
use Rattle.btree_model.specs.Plain.{is_leaf}
use Rattle.db_format.specs.Header.{header_read_as}
use Rattle.db_format.specs.Pages.{Pages, Test, is_page}
use Rattle.db_format.specs.declared.header.Header.{Header}
use Rattle.fresh_disk.specs.Published.{IsAlone}
use Rattle.edge_model.specs.Files.{File, Files, bytes_of, main_of}
use Rattle.edge_model.specs.Images.{Each, LeavesOnly}
use Rattle.edge_model.specs.Moments.{started}
use Rattle.edge_model.specs.OnlyRead.{OnlyRead}
use Rattle.cipher_profile.specs.declared.keys.Secret.{Secret}
use Rattle.cipher_profile.specs.declared.profile.Profile.{Profile}
use Rattle.page_codec.specs.Page.{FileKeys, keys_of, opened}
use Rattle.pager.specs.Base.{base_of}
use Rattle.pager.specs.Changed.{same_layout}
use Rattle.pager.specs.Database.{count_by, count_of, counted}
use Rattle.pager.specs.File.{page_stored}
use Rattle.pager.specs.Opening.{file_opened}
use Rattle.pager.specs.Pages.{is_page_number}
use Rattle.rekey_job.specs.Rekeyed.{IsRekeyed}
use Rattle.rekey_job.specs.Stops.{AreClean, IsFirstRefused, IsRekeyShown, is_unwritten}
use Rattle.rekey_job.specs.declared.error.RekeyError.{RekeyError}
use Rattle.rekey_job.specs.declared.error.RekeyError.TheVariants.{LayoutDiffers, PageTag as RekeyTag, Defect as RekeyDefect, DiskFault as RekeyDisk, EntropyFault as RekeyEntropy, OutOfMemory as RekeyMemory}
use Rattle.pager.proofs.Bases.{some_is as count_is}
use Rattle.rollback_journal.specs.Recovery.{Recovers}
use Rattle.atomic_commit.specs.Commit.{IsCommitted, LeavesChanged}
use Rattle.atomic_commit.specs.Database.{HoldsEither, HoldsOld, HoldsPages, stored_pages}
use Rattle.atomic_commit.specs.Facts.{IsCommitBegun}
use Rattle.sqlcipher_tool.specs.Answer.{Answer, done, refused}
use Rattle.sqlcipher_tool.specs.Change.{Commits, IsLateChange, KeepsOld, KeepsOrCommits, change_answer, change_status, rekey_error}
use Rattle.rekey_job.specs.Draws.{FileDraws}
use Rattle.sqlcipher_tool.specs.Holding.{HoldsOnly, held_by}
use Rattle.sqlcipher_tool.specs.Opening.{page_count_of}
use Rattle.sqlcipher_tool.specs.Plain.{is_left, refused_in_use}
use Rattle.sqlcipher_tool.specs.Rekey.{rekey_due}
use Rattle.sqlcipher_tool.specs.Renewal.{WithDraws}
use Rattle.sqlcipher_tool.specs.Tags.{numbers_where, page_numbers}
use Rattle.sqlcipher_tool.specs.Text.{rekeyed_report}
use Rattle.sqlcipher_tool.specs.Verify.{else_answers, stop_answers}
use Rattle.sqlcipher_tool.specs.declared.status.Refusal.TheVariants.{PageTag, Defect as RefusedDefect}
use Rattle.sqlcipher_tool.specs.declared.status.Status.{Status}
use Rattle.sqlcipher_tool.specs.declared.status.Status.TheVariants.{Done}
use Rattle.sqlcipher_tool.proofs.Changing.{broken, committed, read_only, uncommitted}
use Rattle.sqlcipher_tool.proofs.Databases.{alone_old, counted_pages, holds_old, is_some_is, same_database}
use Rattle.sqlcipher_tool.proofs.OpenedParts.{IsOpen, header_size, open_count, open_parts}
use Rattle.sqlcipher_tool.proofs.Stamping.{whole_counts}
use Rattle.sqlcipher_tool.proofs.Verified.{among_pages, among_stops, else_left, left_by, no_first_fault, no_first_refusal, none_where, some_is}
use Rattle.sqlcipher_tool.proofs.Numbers.{no_less}

-- ---- what is due

-- no part has a defect
pub no_parts : (pages : Pages) (rest : List Answer) → is_database pages ≡ true → else_answers (stop_answers (first_faults (parts pages)) (first_refusals (parts pages))) rest ≡ rest
no_parts pages rest whole =
    ap (λ ds. else_answers (stop_answers ds (first_refusals (parts pages))) rest) (no_first_fault (parts pages) whole)
    ∙ ap (λ ns. else_answers (stop_answers [] ns) rest) (no_first_refusal (parts pages) whole)

-- a number that meets a test is among those that do
pub number_among : (test : Test) (count n : ℕ) → 1 ≤ n → n ≤ count → test n ≡ true → Contains (numbers_where test count) n
number_among test zero n low high is = absurd (omega (arith, low, high))
number_among test (suc count) n low high is = subst (λ (l : List ℕ). Contains l n) (sym (Rattle.std.proofs.lemmas.List.Elements.filter-append test (page_numbers count) (suc count ∷ []))) (⊎_elim
    (λ (less : n ≤ count). Contains-append_left (numbers_where test count) (filter test (suc count ∷ [])) n (number_among test count n low less is))
    (λ (last : n ≡ suc count). Contains-append_right (numbers_where test count) (filter test (suc count ∷ [])) n (subst (λ (m : ℕ). Contains (filter test (m ∷ [])) n) last (one n is)))
    (which count n high))
  where
    which : (count n : ℕ) → n ≤ suc count → (n ≤ count) ⊎ (n ≡ suc count)
    which count n high = search (arith, high)

    one : (n : ℕ) → test n ≡ true → Contains (filter test (n ∷ [])) n
    one n is = (elim (test n) as (λ b. test n ≡ b → b ≡ true → Contains (filter test (n ∷ [])) n) [
      | true ↦ λ t yes. subst (λ (l : List ℕ). Contains l n) (sym (kept t)) (0, omega arith, refl)
      | false ↦ λ t yes. cc
    ]) refl is
      where
        kept : test n ≡ true → filter test (n ∷ []) ≡ n ∷ []
        kept t = rw t refl

in_range : (pages : Pages) (n : ℕ) → is_page pages n ≡ true → (1 ≤ n) × (n ≤ pages.count)
in_range pages n is = search (rules, is)

-- the first refused page in use is one of those
refused_among : (pages : Pages) (n : ℕ) → IsFirstRefused pages (is_leaf pages) n → Contains (refused_in_use pages) n
refused_among pages n first =
    let range = in_range pages n first.range in
    number_among (is_left pages (is_leaf pages)) pages.count n range.0 range.1 (rw (first.used, first.refused) refl)

-- what stopped a rekey is due
pub shown_due : (pages : Pages) (error : RekeyError) (answer : Answer) → IsRekeyShown pages error → change_answer (Err (rekey_error error)) ≡ Some answer → Contains (rekey_due pages) answer
shown_due pages LayoutDiffers answer shown is = cc
shown_due pages (RekeyTag n) answer shown is = subst (λ (a : Answer). Contains (rekey_due pages) a) (some_is (refused (PageTag n)) answer is) (⊎_elim
    (λ part. else_left (stop_answers (first_faults (parts pages)) (first_refusals (parts pages))) _ (refused (PageTag n)) (among_pages (first_faults (parts pages)) (first_refusals (parts pages)) n part))
    (λ behind. subst (λ (l : List Answer). Contains l (refused (PageTag n))) (sym (no_parts pages _ behind.0))
    (else_left (stop_answers [] (refused_in_use pages)) (done (rekeyed_report pages.count) ∷ []) (refused (PageTag n)) (among_pages [] (refused_in_use pages) n (refused_among pages n behind.1)))) shown)
shown_due pages (RekeyDefect d) answer shown is = subst (λ (a : Answer). Contains (rekey_due pages) a) (some_is (refused (RefusedDefect d)) answer is)
    (else_left (stop_answers (first_faults (parts pages)) (first_refusals (parts pages))) _ (refused (RefusedDefect d)) (among_stops (first_faults (parts pages)) (first_refusals (parts pages)) d shown))
shown_due pages RekeyDisk answer shown is = cc
shown_due pages RekeyEntropy answer shown is = cc
shown_due pages RekeyMemory answer shown is = cc

-- of clean pages nothing but the report is
pub report_alone : (pages : Pages) → is_database pages ≡ true → refused_in_use pages ≡ [] → rekey_due pages ≡ done (rekeyed_report pages.count) ∷ []
report_alone pages whole accepted = no_parts pages _ whole ∙ ap (λ ns. else_answers (stop_answers [] ns) (done (rekeyed_report pages.count) ∷ [])) accepted

pub clean_accepted : (pages : Pages) → AreClean pages → refused_in_use pages ≡ []
clean_accepted pages clean = none_where (is_left pages (is_leaf pages)) pages.count (λ i within.
    left_by true (is_leaf pages (1 + i)) (pages.accepts (1 + i)) (clean.accepted (1 + i) (numbered pages.count i within)))
  where
    numbered : (count i : ℕ) → i < count → (Rattle.std.specs.Prelude.nat_le 1 (1 + i) && Rattle.std.specs.Prelude.nat_le (1 + i) count) ≡ true
    numbered count i within = search (rules, within)

pub report_due : (pages : Pages) (answer : Answer) → AreClean pages → Some (done (rekeyed_report pages.count)) ≡ Some answer → Contains (rekey_due pages) answer
report_due pages answer clean is = subst (λ (a : Answer). Contains (rekey_due pages) a) (some_is (done (rekeyed_report pages.count)) answer is)
    (subst (λ (l : List Answer). Contains l (done (rekeyed_report pages.count))) (sym (report_alone pages clean.sound (clean_accepted pages clean))) (0, omega arith, refl))

-- ---- how it stops

pub rekey_late : (error : RekeyError) → IsLateChange (rekey_error error)
rekey_late LayoutDiffers = tt
rekey_late (RekeyTag page) = refl
rekey_late (RekeyDefect defect) = refl
rekey_late RekeyDisk = tt
rekey_late RekeyEntropy = tt
rekey_late RekeyMemory = tt

-- the layouts do not differ
pub same_laid : (read write : FileKeys) → write.profile.page_size ≡ read.profile.page_size → write.profile.reserve ≡ read.profile.reserve
    → write.profile.reads_log ≡ read.profile.reads_log → same_layout read write ≡ true
same_laid read write sizes reserves settings =
    all_three (read.profile.page_size == write.profile.page_size) (read.profile.reserve == write.profile.reserve) (beq read.profile.reads_log write.profile.reads_log)
    (equal read.profile.page_size write.profile.page_size (sym sizes)) (equal read.profile.reserve write.profile.reserve (sym reserves))
    (same_bool read.profile.reads_log write.profile.reads_log (sym settings))
  where
    equal : (a b : ℕ) → a ≡ b → (a == b) ≡ true
    equal a b is = search (rules, is)

    same_bool : (a b : Bool) → a ≡ b → beq a b ≡ true
    same_bool true true is = refl
    same_bool true false is = cc
    same_bool false true is = cc
    same_bool false false is = refl

    all_three : (a b d : Bool) → a ≡ true → b ≡ true → d ≡ true → (a && b && d) ≡ true
    all_three a b d one two three = search (rules, one, two, three)

-- ---- the database

-- keys of one layout count the pages alike where page 1 is the same
same_count : (one two : FileKeys) (x y : List ℕ) (len : ℕ) → one.profile.page_size ≡ two.profile.page_size → one.profile.reserve ≡ two.profile.reserve
    → one.profile.reads_log ≡ two.profile.reads_log → opened one 1 x ≡ opened two 1 y → count_by one x len ≡ count_by two y len
same_count one two x y len sizes reserves settings plain =
    ap (λ (size : ℕ). if nat_lt len size then None else counted len (header_read_as one.profile.reads_log (opened one 1 x) size one.profile.reserve)) sizes
    ∙ (ap (λ (reserve : ℕ). if nat_lt len two.profile.page_size then None else counted len (header_read_as one.profile.reads_log (opened one 1 x) two.profile.page_size reserve)) reserves
    ∙ (ap (λ (passes : Bool). if nat_lt len two.profile.page_size then None else counted len (header_read_as passes (opened one 1 x) two.profile.page_size two.profile.reserve)) settings
    ∙ ap (λ (page : List ℕ). if nat_lt len two.profile.page_size then None else counted len (header_read_as two.profile.reads_log page two.profile.page_size two.profile.reserve)) plain))

-- an image that holds the pages of a rekeyed file holds its database
holds_rekeyed : (keys write : FileKeys) (file new : List ℕ) (n : ℕ) (image : Files) → 1 ≤ n → write.profile.page_size ≡ keys.profile.page_size → write.profile.reserve ≡ keys.profile.reserve
    → write.profile.reads_log ≡ keys.profile.reads_log → IsRekeyed keys write n file new → HoldsPages (base_of keys file n) (stored_pages keys.profile.page_size n new) image → HoldsOnly (held_by write new) image
holds_rekeyed keys write file new n image some sizes reserves settings rekeyed holds = record {
  some = (holds.some.0, subst (λ (s : ℕ). at s holds.some.0) (sym sizes) holds.some.1);
  only = λ other to.
      let db = holds.only other (subst (λ (s : ℕ). at s other) sizes to) in
      same_database write new other n some rekeyed.is
      (same_count write keys (page_stored write new 1) (page_stored keys file 1) (length other) sizes reserves settings rekeyed.first
      ∙ count_is n (count_by keys (page_stored keys file 1) (length other)) db.counted)
      (subst (λ (s : ℕ). stored_pages s n other ≡ stored_pages s n new) (sym sizes) db.pages_are);
}
  where
    at : ℕ → List ℕ → Type 0
    at size file = Recovers size image file

-- Main is there, where it has a page
pub main_there : (keys : FileKeys) (files : Files) (n : ℕ) → 1 ≤ keys.profile.page_size → count_of keys (main_of files) ≡ Some n → bytes_of files.main ≡ Some (main_of files)
main_there keys files n sized is = by_file files.main (omega (arith, sized, long (nat_lt (length (main_of files)) keys.profile.page_size) refl is))
  where
    long : (b : Bool) → nat_lt (length (main_of files)) keys.profile.page_size ≡ b
        → (if b then None else counted (length (main_of files)) (header_read_as keys.profile.reads_log (opened keys 1 (page_stored keys (main_of files) 1)) keys.profile.page_size keys.profile.reserve)) ≡ Some n
        → keys.profile.page_size ≤ length (main_of files)
    long true less is = cc
    long false less is = no_less (length (main_of files)) keys.profile.page_size less

    by_file : (o : Option File) → 1 ≤ length (unwrap_or (bytes_of o) []) → bytes_of o ≡ Some (unwrap_or (bytes_of o) [])
    by_file None some = absurd (omega (arith, some))
    by_file (Some file) some = refl

-- its draws are those of a file under the keys that the secret gives for it
pub rekeyed_draws : (keys write : FileKeys) (n : ℕ) (file main drawn : List ℕ) (profile : Profile) (secret : Secret) → IsRekeyed keys write n file main → write ≡ keys_of profile secret main
    → FileDraws write main (is_page_number n) 0 drawn → FileDraws (keys_of profile secret main) main (is_page_number (page_count_of (keys_of profile secret main) main)) 0 drawn
rekeyed_draws keys write n file main drawn profile secret rekeyed same draws =
    subst (λ (k : FileKeys). FileDraws k main (is_page_number (page_count_of k main)) 0 drawn) same
    (subst (λ (m : ℕ). FileDraws write main (is_page_number m) 0 drawn) (sym (ap (λ (o : Option ℕ). unwrap_or o 0) rekeyed.is)) draws)

-- ---- the disk

-- A file that opens, alone in each image, and a rekey from it.
module _ {D : Type 0} (reads : D → Files) (images : D → Files → Type 0) (moment : D → ℕ) (since : D → ℕ → Files → Type 0)
    (counts_now : (disk : D) (t : ℕ) (c : Files) → t ≤ moment disk → images disk c → since disk t c)
    (only_now : (disk : D) (c : Files) → since disk (moment disk) c → images disk c)
    (keys write : FileKeys) (file : List ℕ) (header : Header) (n : ℕ) (opens : file_opened keys file ≡ Ok (record { header = header; count = n })) (some : 1 ≤ n) (sized : 1 ≤ keys.profile.page_size)
    (sizes : write.profile.page_size ≡ keys.profile.page_size) (reserves : write.profile.reserve ≡ keys.profile.reserve)
    (settings : write.profile.reads_log ≡ keys.profile.reads_log) (old new : D) (alone : Each (images old) (IsAlone file))
    (tells : Bool) (own : List ℕ → Type 0) where
  abbrev pub Old : Files → Type 0
  Old image = HoldsOnly (held_by keys file) image

  abbrev pub New : List ℕ → Files → Type 0
  New main image = HoldsOnly (held_by write main) image

  -- a rekeyed file, with what is said of its draws
  abbrev pub IsOne : List ℕ → Type 0
  IsOne = WithDraws (IsRekeyed keys write n file) tells own

  parts_open : IsOpen keys file header n
  parts_open = open_parts keys file header n opens

  counts : count_of keys file ≡ Some n
  counts = open_count keys file header n parts_open

  within : n * keys.profile.page_size ≤ length file
  within = subst (λ (k : ℕ). n * k ≤ length file) (header_size keys.profile.reads_log (opened keys 1 (page_stored keys file 1)) keys.profile.page_size keys.profile.reserve header parts_open.read).1
      (counted_pages header (length file) n parts_open.counts).within

  -- what the transaction asks of the images
  pub begun : IsCommitBegun (base_of keys file n) (images old)
  begun = record {
    base_is = record {
      size = sized;
      pages = some;
      within = within;
      whole = is_some_is n (count_by keys (page_stored keys file 1) (n * keys.profile.page_size)) (whole_counts keys file header n parts_open sized some);
    };
    no_journal = λ c now. (alone c now).journal;
    holds = λ c now. alone_old keys file n c counts (alone c now);
  }

  was_old : (c : Files) → HoldsOld (base_of keys file n) c → Old c
  was_old c holds = holds_old keys file n c some counts holds

  at_start : Each (images old) Old
  at_start c now = was_old c (alone_old keys file n c counts (alone c now))

  before : LeavesOnly moment since old old Old
  before = started only_now old Old at_start

  holds : (main : List ℕ) → IsOne main → (c : Files) → HoldsPages (base_of keys file n) (stored_pages keys.profile.page_size n main) c → New main c
  holds main one c is = holds_rekeyed keys write file main n c some sizes reserves settings one.0 is

  -- it was done
  pub done_rekey : (main : List ℕ) → IsOne main → Each (images new) (IsCommitted (base_of keys file n) main)
      → LeavesOnly moment since old new (HoldsEither (base_of keys file n) (stored_pages keys.profile.page_size n main)) → bytes_of (reads new).main ≡ Some main
      → Commits reads images moment since Done IsOne Old New old new
  done_rekey main rekeyed now run is = committed reads images moment since counts_now only_now (base_of keys file n) IsOne was_old (λ main has. has) holds before main rekeyed now run is

  -- it was stopped
  pub stopped_rekey : (error : RekeyError) → (is_unwritten error ≡ true → OnlyRead reads images moment since old new)
      → (error ≡ RekeyEntropy → LeavesOnly moment since old new (HoldsOld (base_of keys file n))) → LeavesChanged moment since (base_of keys file n) IsOne old new
      → KeepsOrCommits reads images moment since (change_status (Err (rekey_error error))) IsOne Old New old new
  stopped_rekey error read undrawn run = by_error error read undrawn
    where
      kept : (status : Status) → (status ≡ Done → ⊥) → OnlyRead reads images moment since old new → KeepsOld moment since status Old old new
      kept status never read = record { any_moment = read_only reads images moment since counts_now only_now at_start read; not_done = never }

      by_error : (error : RekeyError) → (is_unwritten error ≡ true → OnlyRead reads images moment since old new)
          → (error ≡ RekeyEntropy → LeavesOnly moment since old new (HoldsOld (base_of keys file n)))
          → KeepsOrCommits reads images moment since (change_status (Err (rekey_error error))) IsOne Old New old new
      by_error LayoutDiffers read undrawn = inl (kept _ (λ is. cc) (read refl))
      by_error (RekeyTag page) read undrawn = inl (kept _ (λ is. cc) (read refl))
      by_error (RekeyDefect defect) read undrawn = inl (kept _ (λ is. cc) (read refl))
      by_error RekeyDisk read undrawn =
          broken reads images moment since counts_now only_now (base_of keys file n) IsOne was_old (λ main has. has) holds before run
      by_error RekeyEntropy read undrawn =
          inl (uncommitted reads images moment since counts_now only_now (base_of keys file n) IsOne was_old (λ main has. has) holds before _ (λ is. cc) (undrawn refl))
      by_error RekeyMemory read undrawn = inl (kept _ (λ is. cc) (read refl))
