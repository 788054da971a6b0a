use Rattle.std.proofs.Common.{◌≡◌, reverse}
use Rattle.page_cache.specs.Frames.{unpinned}
use Rattle.page_cache.proofs.table.unpinned.Given as goal

abbrev pub invariant-loop-held : goal.invariant-loop-held
invariant-loop-held l =
    (goal.iterator-loop-held).can_next l.held-iterator ×
    (goal.iterator-loop-held).is_finite l.held-iterator ×
    (unpinned (reverse l.fn.table.entries) ≡ unpinned (reverse l.held-iterator.iter))
