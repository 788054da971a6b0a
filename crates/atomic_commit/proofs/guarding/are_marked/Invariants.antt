use Rattle.std.proofs.Common.{◌≡◌, ◌<◌, ℕ, true}
use Rattle.std.specs.Prelude.{slice_index}
use Rattle.atomic_commit.specs.Marks.{is_marked}
use Rattle.atomic_commit.proofs.guarding.are_marked.Given as goal

abbrev pub invariant-loop-k : goal.invariant-loop-k
invariant-loop-k g l = (j : ℕ) → j < l.k → is_marked (slice_index (g.N.PageNumbers.numbers l.pages) j) l.recorded ≡ true
