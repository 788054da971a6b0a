-- A session's commit, from the pager that it opened to what it leaves.
use Rattle.std.proofs.Common.{◌≡◌, inl, inr, ℕ, ◌<◌, ◌≤◌, Bool, true, IsTrue, List, length, Some, refl, sym, ap, subst, ◌∙◌, arith}
use Rattle.edge_model.specs.Files.{Files, main_of}
use Rattle.edge_model.specs.Images.{Each, LeavesOnly}
use Rattle.edge_model.specs.Moments.{and_then}
use Rattle.edge_model.specs.OnlyRead.{OnlyRead}
use Rattle.cipher_profile.proofs.Layouts.{IsListed-laid_out}
use Rattle.cipher_profile.specs.Profile.{IsListed}
use Rattle.page_codec.specs.Page.{FileKeys, accepts}
use Rattle.fresh_disk.specs.Published.{IsAlone}
use Rattle.pager.specs.Base.{base_of}
use Rattle.pager.specs.Changed.{same_layout}
use Rattle.pager.specs.File.{page_stored}
use Rattle.pager.specs.Opening.{file_opened}
use Rattle.pager.specs.Pages.{is_page_number, opened_pages}
use Rattle.atomic_commit.specs.Commit.{IsCommitted, LeavesChanged}
use Rattle.atomic_commit.specs.Database.{Base, HoldsOld}
use Rattle.atomic_commit.specs.Facts.{IsCommitBegun}
use Rattle.atomic_commit.proofs.Behind.{then_changed}
use Rattle.session_hall.specs.Commit.{Commitment, base_by, put_over}
use Rattle.session_hall.specs.Draws.{HasDrawn}
use Rattle.session_hall.specs.Kept.{IsHallSettled, IsSessionSound}
use Rattle.session_hall.specs.Key.{codec_of}
use Rattle.session_hall.specs.Locks.{is_holding}
use Rattle.session_hall.specs.Machine.{HasSessionChanges, is_sealed, opened_by, counted_pages, write_access}
use Rattle.session_hall.specs.Session.{HasPlainPages, Session}
use Rattle.session_hall.specs.Writing.{HasWritten}
use Rattle.session_hall.proofs.Committed.{HasNew, done_changes, has_drawn, leaves_changes, old_read}
use Rattle.session_hall.proofs.Counting.{open_long, open_some}
use Rattle.session_hall.proofs.Sound.{read_settled}
use Rattle.pager.proofs.Bases.{any_base, told_base}
use Rattle.session_hall.proofs.Standing.{settled_begun, stands_alone}

-- what was said by other names
by_names : (P : FileKeys → FileKeys → List ℕ → ℕ → Type 0) (k k_now w w_now : FileKeys) (f f_now : List ℕ) (n n_now : ℕ) → k_now ≡ k → w_now ≡ w → f_now ≡ f → n_now ≡ n
    → P k_now w_now f_now n_now → P k w f n
by_names P k k_now w w_now f f_now n n_now one two three four p =
    subst (λ (m : ℕ). P k w f m) four (subst (λ (l : List ℕ). P k w l n_now) three (subst (λ (v : FileKeys). P k v f_now n_now) two (subst (λ (u : FileKeys). P u w_now f_now n_now) one p)))

module _ {D : Type 0} (reads : D → Files) (images : D → Files → Type 0) (moment : D → ℕ) (since : D → ℕ → Files → Type 0)
    (counts_now : (disk : D) (t : ℕ) (c : Files) → t ≤ moment disk → images disk c → since disk t c)
    (only_now : (disk : D) (c : Files) → since disk (moment disk) c → images disk c) (tells : Bool) (told : IsTrue tells)
    (x : Session) (old mid : D) (settled : IsHallSettled (reads old) (images old)) (sound : IsSessionSound (main_of (reads old)) x) (holds : is_holding x.lock ≡ true)
    (plains : HasPlainPages x.access x.changes) (listed : IsListed x.access.profile) (write_listed : IsListed (write_access x).profile)
    (codec write : FileKeys) (count : ℕ) (some : 1 ≤ count)
    (is_read : 16 ≤ length (main_of (reads old)) → codec ≡ codec_of x.access (main_of (reads old)))
    (is_write : 16 ≤ length (main_of (reads old)) → write ≡ codec_of (write_access x) (main_of (reads old)))
    (counts : counted_pages (file_opened codec (main_of (reads mid))) ≡ Some count) (run : OnlyRead reads images moment since old mid) where
  abbrev file : List ℕ
  file = main_of (reads old)

  abbrev now : List ℕ
  now = main_of (reads mid)

  opens : counted_pages (opened_by x.access file) ≡ Some x.pages
  opens = sound.opens holds

  large : 512 ≤ x.access.profile.page_size
  large = (IsListed-laid_out x.access.profile listed).least

  long : 16 ≤ length file
  long = let whole = open_long (codec_of x.access file) file x.pages opens in omega (arith, whole, large)

  codec_is : codec ≡ codec_of x.access file
  codec_is = is_read long

  write_is : write ≡ codec_of (write_access x) file
  write_is = is_write long

  main_is : now ≡ file
  main_is = ap main_of run.stays

  count_is : count ≡ x.pages
  count_is = some_same count x.pages (sym counts ∙ (ap (λ (k : FileKeys). counted_pages (file_opened k now)) codec_is ∙ (ap (λ (l : List ℕ). counted_pages (file_opened (codec_of x.access file) l)) main_is ∙ opens)))
    where
      some_same : (a b : ℕ) → Some a ≡ Some b → a ≡ b
      some_same a b is = cc

  pages_some : 1 ≤ x.pages
  pages_some = subst (λ (n : ℕ). 1 ≤ n) count_is some

  abbrev any : Base
  any = any_base tells codec now count

  pub base_is : any ≡ base_by x file
  base_is =
      told_base tells codec now count told
      ∙ by_names (λ k w f n. base_of codec now count ≡ base_of k f n) (codec_of x.access file) codec write write file now x.pages count codec_is refl main_is count_is refl

  -- ---- before it

  pub begun : IsCommitBegun any (images mid)
  begun = subst (λ (b : Base). IsCommitBegun b (images mid)) (sym base_is)
      (settled_begun (codec_of x.access file) file x.pages (images mid) opens large pages_some
      (subst (λ (l : List ℕ). Each (images mid) (IsAlone l)) main_is
      (stands_alone (reads mid) (images mid) (read_settled run settled) (subst (λ (l : List ℕ). 0 < length l) (sym main_is) (open_some (codec_of x.access file) file x.pages opens)))))

  pub still_accepted : (n : ℕ) → is_page_number count n ≡ true → is_sealed x n ≡ true → accepts codec n (page_stored codec any.start n) ≡ true
  still_accepted n num sealed =
      subst (λ (b : Base). accepts codec n (page_stored codec b.start n) ≡ true) (sym base_is)
      (subst (λ (k : FileKeys). accepts k n (page_stored k file n) ≡ true) (sym codec_is)
      (sound.accepted n (subst (λ (m : ℕ). is_page_number m n ≡ true) count_is num) sealed))

  -- ---- behind it

  pub is_new : (left : Files → Type 0) (main : List ℕ) → Each left (IsCommitted any main) → Each left (IsCommitted (base_by x file) main)
  is_new left main new = subst (λ (b : Base). Each left (IsCommitted b main)) base_is new

  pub still_old : LeavesOnly moment since old mid (HoldsOld (base_by x file))
  still_old = old_read reads images moment since counts_now only_now x old mid settled opens run

  pub all_old : (new : D) → LeavesOnly moment since mid new (HoldsOld any) → LeavesOnly moment since old new (HoldsOld (base_by x file))
  all_old new old_alone = and_then still_old (subst (λ (b : Base). LeavesOnly moment since mid new (HoldsOld b)) base_is old_alone)

  module _ (draws_told : Bool) (before after : List ℕ) where
    -- what the transaction left, as it names it
    abbrev pub HasLeft : List ℕ → Type 0
    HasLeft main = HasWritten (record { base = any; drawn = before }) codec write x (λ n. put_over x n ((opened_pages codec now count).page n)) draws_told after main

    same_left : (main : List ℕ) → HasLeft main → (layout : same_layout (codec_of x.access file) (codec_of (write_access x) file) ≡ true) → HasNew x file listed write_listed plains sound opens pages_some layout draws_told before after main
    same_left main left layout =
        by_names (λ k w f n. HasWritten (record { base = base_by x file; drawn = before }) k w x (λ m. put_over x m ((opened_pages k f n).page m)) draws_told after main)
        (codec_of x.access file) codec (codec_of (write_access x) file) write file now x.pages count codec_is write_is main_is count_is
        (subst (λ (b : Base). HasWritten (record { base = b; drawn = before }) codec write x (λ m. put_over x m ((opened_pages codec now count).page m)) draws_told after main) base_is left)

    layout_of : (main : List ℕ) → HasLeft main → same_layout (codec_of x.access file) (codec_of (write_access x) file) ≡ true
    layout_of main left = subst (λ (w : FileKeys). same_layout (codec_of x.access file) w ≡ true) write_is (subst (λ (k : FileKeys). same_layout k write ≡ true) codec_is left.1)

    pub done : (files : Files) (left : Files → Type 0) → left files → HasLeft (main_of files) → Each left (IsCommitted any (main_of files)) → HasSessionChanges x file (main_of files)
    done files left here new each =
        let layout = layout_of (main_of files) new in
        done_changes x file listed write_listed plains sound opens pages_some layout draws_told before after files left here (same_left (main_of files) new layout) (is_new left (main_of files) each)

    pub done_draws : (main : List ℕ) → HasLeft main → IsTrue draws_told → HasDrawn x main before after
    done_draws main left draws =
        let layout = layout_of main left in
        has_drawn x file listed write_listed plains sound opens pages_some layout draws_told before after main (same_left main left layout) draws

    pub moments : (new : D) → LeavesChanged moment since any HasLeft mid new → Commitment moment since x file (IsTrue draws_told) before after old new
    moments new changes = then_changed still_old (by_case (subst (λ (b : Base). LeavesChanged moment since b HasLeft mid new) base_is changes))
      where
        by_case : LeavesChanged moment since (base_by x file) HasLeft mid new → Commitment moment since x file (IsTrue draws_told) before after mid new
        by_case (inl olds) = inl olds
        by_case (inr one) =
            let layout = layout_of one.0 one.1 in
            leaves_changes x file listed write_listed plains sound opens pages_some layout draws_told before after moment since mid new (inr (one.0, same_left one.0 one.1 layout, one.2))
