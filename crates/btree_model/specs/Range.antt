-- Numbers by which a page names another one.
use Rattle.std.specs.Prelude.{ℕ, Bool, ◌&&◌, nat_le}
use Rattle.db_format.specs.Pages.{Pages}

-- the number of a page other than page 1, which no page names
abbrev pub is_in_range : Pages → ℕ → Bool
is_in_range pages n = nat_le 2 n && nat_le n pages.count
