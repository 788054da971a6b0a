-- What is written for each page: what it is, or zeros.
use Rattle.std.specs.Prelude.{ℕ, Bool, ◌&&◌, List, nat_lt, replicate, if◌then◌else◌}
use Rattle.db_format.specs.Seen.{marked}

-- page n is one of these leaves of the freelist; page 1 never is
abbrev pub is_zeroed : List Bool → ℕ → Bool
is_zeroed leaves n = nat_lt 1 n && marked leaves n

-- what page n becomes: what it was, or so many zeros where it is one of the leaves
abbrev pub rewritten : List Bool → ℕ → ℕ → List ℕ → List ℕ
rewritten leaves usable n page = if is_zeroed leaves n then replicate usable 0 else page
