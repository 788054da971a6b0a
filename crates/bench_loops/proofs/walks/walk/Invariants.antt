use Rattle.btree_walk.specs.Cursor.{IsCursorReady}
use Rattle.bench_loops.proofs.walks.walk.Given as goal

abbrev pub invariant-loop : goal.invariant-loop
invariant-loop g l =
    record {
      ready : IsCursorReady (g.S.PageSource.plain l.source).count (g.S.PageSource.pins l.source) l.seen l.cursor;
      reads : g.S.PageSource.only_read l.initial.source l.source;
    }
