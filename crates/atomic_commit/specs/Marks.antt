-- Which pages of a database are marked: a truth value for each, page 1 first.
use Rattle.std.specs.Prelude.{ℕ, ◌-◌, Bool, true, false, List, get_or, set}
use Rattle.std.specs.List.{count_by}

-- the page with this number is marked
abbrev pub is_marked : ℕ → List Bool → Bool
is_marked n marks = get_or marks (n - 1) false

-- the same marks, and this page
abbrev pub with_mark : ℕ → List Bool → List Bool
with_mark n marks = set marks (n - 1) true

-- how many pages are marked
abbrev pub marked_count : List Bool → ℕ
marked_count marks = count_by (λ (b : Bool). b) marks
