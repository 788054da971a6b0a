use Rattle.std.proofs.Common.{◌≡◌, ◌+◌, ◌^◌, ◌≤◌, None}
use Rattle.std.specs.Prelude.{IsTrue}
use Rattle.db_format.specs.Seen.{marked}
use Rattle.btree_walk.specs.Cursor.{IsCursorReady}
use Rattle.btree_walk.specs.Turn.{work}
use Rattle.export_rows.proofs.TreeText.{IsSoFar}
use Rattle.export_rows.proofs.tree.put_tree.Given as goal

-- the lines of the entries that were given are moved
abbrev pub invariant-entries : goal.invariant-entries
invariant-entries g l =
    record {
      ready : IsCursorReady (g.S.PageSource.plain l.source).count (g.S.PageSource.pins l.source) l.seen l.cursor;
      read : g.S.PageSource.only_read l.fn.source l.source;
      root : l.cursor.root ≡ l.fn.root;
      asked : l.cursor.asked ≡ None;
      few : l.rows + work l.seen l.cursor.path ≤ 2 ^ 53;
      later : g.K.Sink.faults l.fn.out ≤ g.K.Sink.faults l.out;
      on : IsTrue g.S.PageSource.tells
          → IsSoFar (g.S.PageSource.plain l.fn.source) l.fn.root l.cursor (marked l.seen) l.rows g.K.Sink.tells (g.K.Sink.taken l.fn.out) l.fn.line (g.K.Sink.taken l.out) l.line;
    }

abbrev pub decreases-entries : goal.decreases-entries
decreases-entries g l = work l.seen l.cursor.path
