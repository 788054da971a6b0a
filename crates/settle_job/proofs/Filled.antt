-- A page that was made zeros and then written: what is seen of it, and that it is refused only by a call that failed.
use Rattle.std.proofs.Common.{◌≡◌, ℕ, ◌+◌, ◌==◌, ◌&&◌, ◌||◌, Bool, true, false, IsTrue, List, ◌++◌, length, drop, replicate, if◌then◌else◌, refl, ap, subst, ◌∙◌, arith}
use Rattle.std.proofs.lemmas.List.{drop-replicate}
use Rattle.std.proofs.lemmas.Bool.{eq-eqb}
use Rattle.edge_model.specs.Files.{Files, main_of}
use Rattle.page_cache.specs.Pages.{Page, is_held}
use Rattle.page_codec.specs.Page.{FileKeys}
use Rattle.pager.specs.Changed.{with_bytes}
use Rattle.pager.specs.Pages.{is_page_number, opened_pages}
use Rattle.pager.specs.UnderWay.{IsRefusedAs, IsUnderWay, Start, is_failure, is_touched, seen_pages}
use Rattle.pager.specs.declared.fill.PageError.{PageError}
use Rattle.pager.specs.declared.fill.PageError.TheVariants.{TagRefused}
use Rattle.rollback_journal.specs.Writing.{Writing}
use Rattle.atomic_commit.specs.Marks.{is_marked}
use Rattle.page_plan.proofs.Accepting.{never_opened, never_refused}
use Rattle.settle_job.specs.Put.{filled}

-- bytes over a page of zeros
over_zeros : (usable : ℕ) (bytes : List ℕ) → with_bytes 0 bytes (replicate usable 0) ≡ filled usable bytes
over_zeros usable bytes =
    let none : 0 + length bytes ≡ length bytes = omega arith in
    ap (λ (k : ℕ). bytes ++ drop k (replicate usable 0)) none ∙ ap (λ (l : List ℕ). bytes ++ l) (drop-replicate (length bytes) usable 0)

pub filled_seen : (m n usable : ℕ) (bytes new : List ℕ) (mid old : ℕ → List ℕ) → new ≡ (if m == n then with_bytes 0 bytes (mid n) else mid m)
    → ((k : ℕ) → mid k ≡ (if k == n then replicate usable 0 else old k)) → new ≡ (if m == n then filled usable bytes else old m)
filled_seen m n usable bytes new mid old is zeros = is ∙ by (m == n) refl
  where
    by : (b : Bool) → (m == n) ≡ b → (if b then with_bytes 0 bytes (mid n) else mid m) ≡ (if b then filled usable bytes else old m)
    by true same =
        ap (with_bytes 0 bytes) (zeros n ∙ ap (λ (b : Bool). if b then replicate usable 0 else old n) (eq-eqb n n refl)) ∙ over_zeros usable bytes
    by false other = zeros m ∙ ap (λ (b : Bool). if b then replicate usable 0 else old m) other

pub touched_once : (e now mid old : Bool) → now ≡ (if e then true else mid) → mid ≡ (if e then true else old) → now ≡ (if e then true else old)
touched_once true now mid old one two = one
touched_once false now mid old one two = one ∙ two

must : (b : Bool) → (b ≡ false → ⊥) → b ≡ true
must true none = refl
must false none = absurd (none refl)

and_both : (a b : Bool) → a ≡ true → b ≡ true → (a && b) ≡ true
and_both true b x y = y
and_both false b x y = cc

module _ (start : Start) (read write : FileKeys) (recorded marks : List Bool) (w : Writing) (now : Files) (images : Files → Type 0) (tells : Bool) (drawn : List ℕ) (held : List Page) (count n : ℕ)
    (whole : count ≡ start.base.pages) (num : is_page_number count n ≡ true) (touched : is_touched marks held n ≡ true) (way : IsUnderWay start write recorded marks w now images tells drawn) where
  by_mark : (b : Bool) → is_marked n marks ≡ b → b ≡ true → (opened_pages (if b then write else read) (main_of now) count).accepts n ≡ true
  by_mark true is one = and_both (is_page_number count n) _ num (way.pages.accepted n (subst (λ (p : ℕ). is_page_number p n ≡ true) whole num) is)
  by_mark false is one = cc

  -- a page that the transaction changed is accepted
  pub changed_accepted : (seen_pages read write (main_of now) count marks held).accepts n ≡ true
  changed_accepted = by (is_held n held) touched
    where
      by : (b : Bool) → (b || is_marked n marks) ≡ true → (b || (opened_pages (if is_marked n marks then write else read) (main_of now) count).accepts n) ≡ true
      by true is = refl
      by false is = by_mark (is_marked n marks) refl is

pub zeros_failed : (tells : Bool) (read write : FileKeys) (file : List ℕ) (count n : ℕ) (marks : List Bool) (held : List Page) (a b c d : ℕ) (error : PageError)
    → is_page_number count n ≡ true → ((page : ℕ) → error ≡ TagRefused page → ⊥)
    → IsRefusedAs tells (seen_pages read write file count marks held) n a b c d error → is_failure error ≡ true
zeros_failed tells read write file count n marks held a b c d error num unopened refused =
    must (is_failure error) (λ still. never_opened tells read write file count n marks held a b c d error num unopened refused still)

pub write_failed : (tells : Bool) (read write : FileKeys) (file : List ℕ) (count n : ℕ) (marks : List Bool) (held : List Page) (a b c d : ℕ) (error : PageError)
    → is_page_number count n ≡ true → (IsTrue tells → (seen_pages read write file count marks held).accepts n ≡ true)
    → IsRefusedAs tells (seen_pages read write file count marks held) n a b c d error → IsTrue tells → is_failure error ≡ true
write_failed tells read write file count n marks held a b c d error num accepted refused told =
    must (is_failure error) (λ still. never_refused tells read write file count n marks held a b c d error num accepted refused still told)
