use Rattle.btree_walk.specs.Cursor.{IsCursorReady}
use Rattle.load_tests.proofs.reading.walk.Given as goal

abbrev pub invariant-loop-before : goal.invariant-loop-before
invariant-loop-before g l = IsCursorReady (g.S.PageSource.plain l.source).count (g.S.PageSource.pins l.source) l.seen l.cursor
