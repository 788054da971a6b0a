-- What a transaction left that began with a clean file, and what a run of reads before it adds.
use Rattle.std.proofs.Common.{◌≡◌, ℕ, ◌≤◌, Bool, true, IsTrue, List, length, drop, Result, Ok, Err, refl, sym, subst}
use Rattle.std.specs.Prelude.{IfErr}
use Rattle.edge_model.specs.Files.{Files, main_of}
use Rattle.edge_model.specs.Images.{Each, LeavesOnly, SameImages}
use Rattle.edge_model.specs.Moments.{goes_less, started}
use Rattle.edge_model.specs.OnlyRead.{OnlyRead}
use Rattle.btree_model.specs.Plain.{with_zeros}
use Rattle.db_format.specs.Pages.{Pages}
use Rattle.cipher_profile.specs.Profile.{IsLaidOut, is_plain}
use Rattle.page_codec.specs.Page.{FileKeys, salt_of}
use Rattle.pager.specs.Base.{base_of}
use Rattle.pager.specs.Changed.{same_layout}
use Rattle.pager.specs.Pages.{is_page_number, opened_pages}
use Rattle.pager.specs.UnderWay.{HasNewPages}
use Rattle.pager.proofs.UnderWayLemmas.{same_main}
use Rattle.atomic_commit.specs.Commit.{IsCommitted, LeavesChanged}
use Rattle.atomic_commit.specs.Database.{Base, HoldsEither, HoldsOld, stored_pages}
use Rattle.atomic_commit.specs.Facts.{IsCommitBegun}
use Rattle.atomic_commit.proofs.Kept.{begun_pages}
use Rattle.rekey_job.specs.Draws.{FileDraws}
use Rattle.rekey_job.specs.Rekeyed.{IsRekeyed}
use Rattle.rekey_job.specs.Stops.{AreClean, IsLateRekey, IsRekeyShown, is_unwritten}
use Rattle.rekey_job.specs.declared.error.RekeyError.{RekeyError}
use Rattle.rekey_job.specs.declared.error.RekeyError.TheVariants.{LayoutDiffers, PageTag, Defect, DiskFault, EntropyFault, OutOfMemory}
use Rattle.pager.proofs.Bases.{any_base, told_base}
use Rattle.pager.proofs.Cutting.{committed_counts}
use Rattle.rekey_job.proofs.Renewed.{IsResealed, is_rekeyed, leaves_rekeyed, own_draws}

-- ---- the transaction

module _ (tells : Bool) (keys write : FileKeys) (count : ℕ) (now : Files) (images : Files → Type 0) (draws_told : Bool) (before after : List ℕ) (layout : same_layout keys write ≡ true)
    (some : 1 ≤ count) (room : 100 ≤ keys.profile.page_size) (told : IsTrue tells) (here : images now) (salt : is_plain write.profile ≡ true → write.salt ≡ salt_of (main_of now)) (salt_long : length write.salt ≡ 16)
    (begun : IsCommitBegun (base_of keys (main_of now) count) images) (clean : AreClean (opened_pages keys (main_of now) count))
    (laid_out : IsLaidOut write.profile × IsLaidOut keys.profile) where
  abbrev old : List ℕ
  old = main_of now

  abbrev base : Base
  base = base_of keys old count

  abbrev any : Base
  any = any_base tells keys old count

  abbrev HasAny : Base → List ℕ → Type 0
  HasAny b main = HasNewPages (record { base = b; drawn = before }) write (λ n. true) (with_zeros (opened_pages keys old count)).page draws_told after main

  same_base : any ≡ base
  same_base = told_base tells keys old count told

  was : base.counts (length old) ≡ true
  was = subst (λ (l : List ℕ). base.counts (length l) ≡ true) (sym (same_main now)) (begun_pages base images now begun here).0.counted

  has_told : (main : List ℕ) → HasAny any main → HasAny base main
  has_told main has = subst (λ (b : Base). HasAny b main) same_base has

  pub now_rekeyed : (files : Files) (left : Files → Type 0) → left files → HasAny any (main_of files) → Each left (IsCommitted any (main_of files))
      → IsRekeyed keys write count old (main_of files)
  now_rekeyed files left stands has new =
      let committed : IsCommitted base (main_of files) files = subst (λ (b : Base). IsCommitted b (main_of files) files) same_base (new files stands) in
      subst (λ (l : List ℕ). IsRekeyed keys write count old l) (sym (same_main files))
      (is_rekeyed keys write count old draws_told before after layout some room salt salt_long clean begun.base_is was laid_out (main_of files) (has_told (main_of files) has)
      (committed_counts base (main_of files) files committed))

  pub now_drawn : (files : Files) → HasAny any (main_of files) → IsTrue draws_told → FileDraws write (main_of files) (is_page_number count) 0 (drop (length before) after)
  now_drawn files has drawing =
      subst (λ (l : List ℕ). FileDraws write l (is_page_number count) 0 (drop (length before) after)) (sym (same_main files))
      (own_draws keys write count old draws_told before after layout some room salt salt_long clean begun.base_is was laid_out (main_of files) (has_told (main_of files) has) drawing)

  pub at_moments : {D : Type 0} (moment : D → ℕ) (since : D → ℕ → Files → Type 0) (start end : D) → LeavesChanged moment since any (HasAny any) start end
      → LeavesChanged moment since base (IsResealed keys write count old draws_told (drop (length before) after)) start end
  at_moments moment since start end run =
      leaves_rekeyed keys write count old draws_told before after layout some room salt salt_long clean begun.base_is was laid_out moment since start end
      (subst (λ (b : Base). LeavesChanged moment since b (HasAny b) start end) same_base run)

-- the same, of the file that is told
pub told_new : (tells : Bool) (keys : FileKeys) (count : ℕ) (file : List ℕ) (left : Files → Type 0) (files : Files) → IsTrue tells
    → Each left (IsCommitted (any_base tells keys file count) (main_of files)) → Each left (IsCommitted (base_of keys file count) (main_of files))
told_new tells keys count file left files told new =
    subst (λ (l : List ℕ). Each left (IsCommitted (base_of keys file count) l)) (sym (same_main files))
    (subst (λ (b : Base). Each left (IsCommitted b (main_of files))) (told_base tells keys file count told) new)

pub told_one : (tells : Bool) (keys : FileKeys) (count : ℕ) (file : List ℕ) {D : Type 0} (moment : D → ℕ) (since : D → ℕ → Files → Type 0) (start end : D) (files : Files) → IsTrue tells
    → LeavesOnly moment since start end (HoldsEither (any_base tells keys file count) (stored_pages (any_base tells keys file count).size (any_base tells keys file count).pages (main_of files)))
    → LeavesOnly moment since start end (HoldsEither (base_of keys file count) (stored_pages keys.profile.page_size count (main_of files)))
told_one tells keys count file moment since start end files told one =
    subst (λ (l : List ℕ). LeavesOnly moment since start end (HoldsEither (base_of keys file count) (stored_pages keys.profile.page_size count l))) (sym (same_main files))
    (subst (λ (b : Base). LeavesOnly moment since start end (HoldsEither b (stored_pages b.size b.pages (main_of files)))) (told_base tells keys file count told) one)

pub told_old : (tells : Bool) (keys : FileKeys) (count : ℕ) (file : List ℕ) {D : Type 0} (moment : D → ℕ) (since : D → ℕ → Files → Type 0) (start end : D) → IsTrue tells
    → LeavesOnly moment since start end (HoldsOld (any_base tells keys file count)) → LeavesOnly moment since start end (HoldsOld (base_of keys file count))
told_old tells keys count file moment since start end told = subst (λ (b : Base). LeavesOnly moment since start end (HoldsOld b)) (told_base tells keys file count told)

-- ---- reads before it

-- what was said by other names
pub by_names : (P : FileKeys → List ℕ → ℕ → Type 0) (keys keys_now : FileKeys) (files files_now : Files) (count count_now : ℕ) → keys_now ≡ keys → files_now ≡ files → count_now ≡ count
    → P keys_now (main_of files_now) count_now → P keys (main_of files) count
by_names P keys keys_now files files_now count count_now k f c p =
    subst (λ (x : ℕ). P keys (main_of files) x) c
    (subst (λ (x : Files). P keys (main_of x) count_now) f
    (subst (λ (x : FileKeys). P x (main_of files_now) count_now) k p))

-- each image through reads alone
pub while_read : {D : Type 0} (reads : D → Files) (images : D → Files → Type 0) (moment : D → ℕ) (since : D → ℕ → Files → Type 0)
    (counts_now : (disk : D) (t : ℕ) (c : Files) → t ≤ moment disk → images disk c → since disk t c)
    (only_now : (disk : D) (c : Files) → since disk (moment disk) c → images disk c)
    (P : Files → Type 0) (old new : D) → Each (images old) P → OnlyRead reads images moment since old new → LeavesOnly moment since old new P
while_read reads images moment since counts_now only_now P old new start read =
    goes_less counts_now (started only_now old P start) read.time (λ c now. read.same_images.no_more c now)

-- what stood before reads stands after them
pub read_begun : (base : Base) (old new : Files → Type 0) → SameImages old new → IsCommitBegun base old → IsCommitBegun base new
read_begun from before after same begun = record {
  base_is = begun.base_is;
  no_journal = λ c now. begun.no_journal c (same.no_more c now);
  holds = λ c now. begun.holds c (same.no_more c now);
}

-- ---- why it stopped

pub same_error : {T E : Type 0} (a b : E) → ◌≡◌ {A = Result T E} (Err a) (Err b) → a ≡ b
same_error a b is = cc

late_shown : (pages : Pages) (error : RekeyError) → IsLateRekey error → IsRekeyShown pages error
late_shown pages LayoutDiffers late = absurd late
late_shown pages (PageTag n) late = absurd late
late_shown pages (Defect d) late = absurd late
late_shown pages DiskFault late = tt
late_shown pages EntropyFault late = tt
late_shown pages OutOfMemory late = tt

-- a late error needs no page that shows it
pub late_show : {T : Type 0} (tells : Bool) (pages : Pages) (r : Result T RekeyError) → IfErr r (λ e. IsTrue tells → IsLateRekey e) → IfErr r (λ e. IsTrue tells → IsRekeyShown pages e)
late_show tells pages (Ok x) late = late
late_show tells pages (Err e) late = λ told. late_shown pages e (late told)

-- and of these, want of memory alone leaves nothing written
pub late_unwritten : {T : Type 0} (tells : Bool) (P : Type 0) (r : Result T RekeyError) → IfErr r (λ e. IsTrue tells → IsLateRekey e) → (r ≡ Err OutOfMemory → IsTrue tells → P)
    → IfErr r (λ e. is_unwritten e ≡ true → IsTrue tells → P)
late_unwritten tells P (Ok x) late gives = late
late_unwritten tells P (Err LayoutDiffers) late gives = λ is told. absurd (late told)
late_unwritten tells P (Err (PageTag n)) late gives = λ is told. absurd (late told)
late_unwritten tells P (Err (Defect d)) late gives = λ is told. absurd (late told)
late_unwritten tells P (Err DiskFault) late gives = λ is. cc
late_unwritten tells P (Err EntropyFault) late gives = λ is. cc
late_unwritten tells P (Err OutOfMemory) late gives = λ is. gives refl
