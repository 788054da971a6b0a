-- The pages of a database, as definitions see them.
use Rattle.std.specs.Prelude.{ℕ, ◌≤◌, Bool, false, List, ◌==◌, ◌&&◌, ◌||◌, nat_le}
use Rattle.std.specs.List.{list_any}

-- plain pages, numbered from 1; a number out of range has no byte
pub record Pages : Type 0 where
  pub count : ℕ
  -- the length of a page, in bytes
  pub usable : ℕ
  pub page : ℕ → List ℕ
  -- the page may be lent: it is the one that was written there
  pub accepts : ℕ → Bool

-- the number of a page
abbrev pub is_page : Pages → ℕ → Bool
is_page pages n = nat_le 1 n && nat_le n pages.count

-- a test of page numbers, as "was met"
abbrev pub Test : Type 0
Test = ℕ → Bool

-- it holds for no page
abbrev pub nothing : Test
nothing n = false

-- it holds for these pages, and for those for which another does
abbrev pub also : List ℕ → Test → Test
also ns test n = list_any (λ m. m == n) ns || test n

-- a length of pages, in bytes, at which the cells of a tree have their least room (section 1.3.4)
pub record IsUsable (usable : ℕ) : Type 0 where
  pub least : 480 ≤ usable
  pub most : usable ≤ 65536
