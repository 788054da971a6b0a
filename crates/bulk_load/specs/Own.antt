-- The pages of one loader, among those of others.
use Rattle.std.specs.Prelude.{ℕ, ◌≡◌, ◌&&◌, Bool, true, nat_le, nat_lt}
use Rattle.db_format.specs.Pages.{Pages, Test}
use Rattle.load_model.specs.Stands.{IsNonePut}
use Rattle.bulk_load.specs.Out.{is_new}

-- these pages, where only those may be lent for which the test holds: a tree of them stands on such pages alone
abbrev pub only : Test → Pages → Pages
only own pages = record { count = pages.count; usable = pages.usable; page = pages.page; accepts = λ n. own n && pages.accepts n }

-- the test holds for each number that was taken in between, and with `first` for page 1
pub record Covers (first : Bool) (own : Test) (old new : Pages) : Type 0 where
  pub taken : (k : ℕ) → is_new old new k ≡ true → own k ≡ true
  pub one : first ≡ true → own 1 ≡ true

-- and for no page that was put before: so these pages are those of one tree alone
pub record CoversNew (first : Bool) (own : Test) (old new : Pages) : Type 0 where
  pub covers : Covers first own old new
  pub none : IsNonePut (only own old)

-- the numbers that were taken between two counts
abbrev pub between : ℕ → ℕ → Test
between a b n = nat_lt a n && nat_le n b
