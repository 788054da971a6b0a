use Rattle.btree_walk.specs.Cursor.{IsCursorReady}
use Rattle.tree_tests.proofs.walking.gives.Given as goal

abbrev pub invariant-loop-row : goal.invariant-loop-row
invariant-loop-row g l = IsCursorReady (g.S.PageSource.plain l.source).count (g.S.PageSource.pins l.source) l.seen l.cursor
