use Rattle.atomic_commit.specs.Batches.{HasMarked}
use Rattle.atomic_commit.proofs.marks.mark_pages.Given as goal

abbrev pub invariant-loop-k : goal.invariant-loop-k
invariant-loop-k g l = HasMarked (g.N.PageNumbers.numbers l.pages) l.k l.fn.marks l.marks
