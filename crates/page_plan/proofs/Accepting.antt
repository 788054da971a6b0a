-- No page is refused but by a call that failed.
use Rattle.std.proofs.Common.{◌≡◌, ◌≢◌, ℕ, ◌&&◌, ◌||◌, Bool, true, false, IsTrue, List, if◌then◌else◌, refl, sym, ap, subst, ◌∙◌}
use Rattle.edge_model.specs.Files.{Files, main_of}
use Rattle.page_cache.specs.Pages.{Page, is_held}
use Rattle.page_codec.specs.Page.{FileKeys, accepts}
use Rattle.pager.specs.File.{page_stored}
use Rattle.pager.specs.Pages.{is_page_number}
use Rattle.pager.specs.UnderWay.{IsRefusedAs, IsUnderWay, Start, is_failure, is_touched, seen_pages}
use Rattle.pager.specs.declared.fill.PageError.{PageError}
use Rattle.pager.specs.declared.fill.PageError.TheVariants.{OutOfRange, TagRefused, DiskFault, EntropyFault, AllPinned}
use Rattle.rollback_journal.specs.Writing.{Writing}
use Rattle.atomic_commit.specs.Database.{stored_page}
use Rattle.atomic_commit.specs.Marks.{is_marked}

or_true : (a b : Bool) → b ≡ true → (a || b) ≡ true
or_true true b is = refl
or_true false b is = is

or_left : (a b : Bool) → a ≡ true → (a || b) ≡ true
or_left true b is = refl
or_left false b is = cc

or_right : (a b : Bool) → a ≡ false → (a || b) ≡ true → b ≡ true
or_right true b is either = cc
or_right false b is either = either

pub and_both : (a b : Bool) → a ≡ true → b ≡ true → (a && b) ≡ true
and_both true b x y = y
and_both false b x y = cc

module _ (start : Start) (read write : FileKeys) (recorded marks : List Bool) (w : Writing) (now : Files) (images : Files → Type 0) (tells : Bool) (drawn : List ℕ) (held : List Page) (count n : ℕ)
    (layout : write.profile.page_size ≡ read.profile.page_size) (whole : count ≡ start.base.pages) (num : is_page_number count n ≡ true)
    (accepted : accepts read n (page_stored read start.base.start n) ≡ true) (way : IsUnderWay start write recorded marks w now images tells drawn) where
  in_base : is_page_number start.base.pages n ≡ true
  in_base = subst (λ (p : ℕ). is_page_number p n ≡ true) whole num

  by_mark : (b : Bool) → is_marked n marks ≡ b → accepts (if b then write else read) n (page_stored (if b then write else read) (main_of now) n) ≡ true
  by_mark true is = way.pages.accepted n in_base is
  by_mark false is =
      let same : page_stored write (main_of now) n ≡ page_stored write start.base.start n = way.pages.others n in_base is in
      let stays : page_stored read (main_of now) n ≡ page_stored read start.base.start n = subst (λ (s : ℕ). stored_page s n (main_of now) ≡ stored_page s n start.base.start) layout same in
      ap (λ (l : List ℕ). accepts read n l) stays ∙ accepted

  -- a page that was accepted at the start is, whether it was written or not
  pub still_accepted : (seen_pages read write (main_of now) count marks held).accepts n ≡ true
  still_accepted =
      or_true (is_held n held) _ (and_both (is_page_number count n) _ num (by_mark (is_marked n marks) refl))

module _ (start : Start) (read write : FileKeys) (recorded marks : List Bool) (w : Writing) (now : Files) (images : Files → Type 0) (tells : Bool) (drawn : List ℕ) (held : List Page) (count n : ℕ)
    (whole : count ≡ start.base.pages) (num : is_page_number count n ≡ true) (touched : is_touched marks held n ≡ true) (way : IsUnderWay start write recorded marks w now images tells drawn) where
  stored : (b : Bool) → is_marked n marks ≡ b → b ≡ true → accepts (if b then write else read) n (page_stored (if b then write else read) (main_of now) n) ≡ true
  stored true is marked = way.pages.accepted n (subst (λ (p : ℕ). is_page_number p n ≡ true) whole num) is
  stored false is marked = cc

  by_place : (b : Bool) → is_held n held ≡ b → (seen_pages read write (main_of now) count marks held).accepts n ≡ true
  by_place true is = or_left (is_held n held) _ is
  by_place false is =
      or_true (is_held n held) _ (and_both (is_page_number count n) _ num (stored (is_marked n marks) refl (or_right (is_held n held) (is_marked n marks) is touched)))

  -- a page that was changed is accepted, in its frame or as it was written
  pub touched_accepted : (seen_pages read write (main_of now) count marks held).accepts n ≡ true
  touched_accepted = by_place (is_held n held) refl

-- so it is refused only by a call that failed
pub never_refused : (tells : Bool) (read write : FileKeys) (file : List ℕ) (count n : ℕ) (marks : List Bool) (held : List Page) (a b c d : ℕ) (error : PageError)
    → is_page_number count n ≡ true → (IsTrue tells → (seen_pages read write file count marks held).accepts n ≡ true)
    → IsRefusedAs tells (seen_pages read write file count marks held) n a b c d error → is_failure error ≡ false → IsTrue tells → ⊥
never_refused tells read write file count n marks held a b c d OutOfRange num accepted refused still told = let no : true ≡ false = sym num ∙ refused in cc
never_refused tells read write file count n marks held a b c d (TagRefused page) num accepted refused still told = let no : true ≡ false = sym (accepted told) ∙ refused.2 told in cc
never_refused tells read write file count n marks held a b c d DiskFault num accepted refused still told = cc
never_refused tells read write file count n marks held a b c d EntropyFault num accepted refused still told = cc
never_refused tells read write file count n marks held a b c d AllPinned num accepted refused still told = refused

-- a page that becomes zeros is not opened
pub never_opened : (tells : Bool) (read write : FileKeys) (file : List ℕ) (count n : ℕ) (marks : List Bool) (held : List Page) (a b c d : ℕ) (error : PageError)
    → is_page_number count n ≡ true → ((page : ℕ) → error ≢ TagRefused page)
    → IsRefusedAs tells (seen_pages read write file count marks held) n a b c d error → is_failure error ≡ false → ⊥
never_opened tells read write file count n marks held a b c d OutOfRange num unopened refused still = let no : true ≡ false = sym num ∙ refused in cc
never_opened tells read write file count n marks held a b c d (TagRefused page) num unopened refused still = unopened page refl
never_opened tells read write file count n marks held a b c d DiskFault num unopened refused still = cc
never_opened tells read write file count n marks held a b c d EntropyFault num unopened refused still = cc
never_opened tells read write file count n marks held a b c d AllPinned num unopened refused still = refused
