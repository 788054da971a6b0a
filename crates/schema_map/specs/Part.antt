-- One part of a database, with its marks before and after.
use Rattle.std.specs.Prelude.{◌≡◌, ◌≤◌, ℕ, ◌+◌, ◌*◌, ◌^◌, Bool, true, List, length, Result, Ok, Err}
use Rattle.db_format.specs.Pages.{Pages, also}
use Rattle.db_format.specs.Seen.{marked, open_count}
use Rattle.btree_model.specs.Finding.{Finding, places, entries, is_sound}
use Rattle.btree_walk.specs.Causes.{IsAmong}
use Rattle.btree_walk.specs.declared.error.WalkError.{WalkError}

-- The part has no defect; its places are marked, and it has so many entries. They are few: a page has less than 2^21 of them.
pub record IsSound (all : List Finding) (old new : List Bool) (rows : ℕ) : Type 0 where
  pub sound : is_sound all ≡ true
  pub marks : marked new ≡ also (places all) (marked old)
  pub count : rows ≡ length (entries all)
  pub few : rows + 2 ^ 21 * open_count new ≤ 2 ^ 21 * open_count old

abbrev pub IsChecked : {R : Type 0} → (Pages → ℕ → R → Type 0) → Pages → List Finding → List Bool → List Bool → Result ℕ (WalkError R) → Type 0
IsChecked refuses pages all old new (Ok rows) = IsSound all old new rows
IsChecked refuses pages all old new (Err error) = IsAmong refuses pages all error
