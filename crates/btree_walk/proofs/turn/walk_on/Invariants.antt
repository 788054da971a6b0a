use Rattle.std.proofs.Common.{◌≡◌, ◌≤◌, List, IsTrue}
use Rattle.db_format.specs.Pages.{Test}
use Rattle.db_format.specs.Seen.{marked}
use Rattle.btree_model.specs.Finding.{Row}
use Rattle.btree_walk.specs.Cursor.{IsCursorReady, IsSameWalk, IsWalking}
use Rattle.btree_walk.specs.Turn.{work}
use Rattle.btree_walk.specs.Marks.{KeepsMarks}
use Rattle.btree_walk.proofs.turn.walk_on.Given as goal

abbrev pub invariant-loop-cursor : goal.invariant-loop-cursor
invariant-loop-cursor g l =
    record {
      ready : IsCursorReady (g.S.PageSource.plain l.initial.source).count (g.S.PageSource.pins l.source) l.seen l.cursor;
      same : IsSameWalk l.initial.cursor l.cursor;
      reads : g.S.PageSource.only_read l.initial.source l.source;
      kept : KeepsMarks (marked l.initial.seen) (marked l.seen);
      less : work l.seen l.cursor.path ≤ work l.initial.seen l.initial.cursor.path;
      last : l.cursor.last ≡ l.initial.cursor.last;
      on : IsTrue g.S.PageSource.tells → (taken : Test) (given : List Row) → IsWalking (g.S.PageSource.plain l.initial.source) taken given l.initial.cursor (marked l.initial.seen)
          → IsWalking (g.S.PageSource.plain l.initial.source) taken given l.cursor (marked l.seen);
    }

abbrev pub decreases-loop-cursor : goal.decreases-loop-cursor
decreases-loop-cursor g l = work l.seen l.cursor.path
