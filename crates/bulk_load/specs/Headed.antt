-- A database header in front of page 1.
use Rattle.std.specs.Prelude.{ℕ, ◌≡◌, true, List, ◌++◌, length, drop}
use Rattle.db_format.specs.Pages.{Pages, is_page}
use Rattle.btree_model.specs.Range.{is_in_range}

-- the same pages, each of which may be lent, but that page 1 begins with these bytes
pub record IsHeaded (head : List ℕ) (old new : Pages) : Type 0 where
  pub count : new.count ≡ old.count
  pub usable : new.usable ≡ old.usable
  pub first : new.page 1 ≡ head ++ drop (length head) (old.page 1)
  pub others : (n : ℕ) → is_in_range old n ≡ true → new.page n ≡ old.page n
  pub accepted : (n : ℕ) → is_page old n ≡ true → new.accepts n ≡ true
