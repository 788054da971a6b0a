use Rattle.std.proofs.Common.{◌≡◌, ◌<◌, ℕ, false}
use Rattle.db_format.specs.Seen.{marked}
use Rattle.map_pages.specs.Maps.{map_number}
use Rattle.map_pages.proofs.census.map_leaf.Given as goal

abbrev pub invariant-loop-k : goal.invariant-loop-k
invariant-loop-k l = (j : ℕ) → j < l.k → marked l.leaves.leaves (map_number l.usable j) ≡ false
