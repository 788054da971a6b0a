use Rattle.btree_walk.specs.Cursor.{IsCursorReady}
use Rattle.bench_loops.proofs.loads.reading.add_up.Given as goal

abbrev pub invariant-loop : goal.invariant-loop
invariant-loop g l = IsCursorReady (g.S.PageSource.plain l.source).count (g.S.PageSource.pins l.source) l.seen l.cursor
