use Rattle.std.proofs.Common.{◌≡◌, ◌+◌, ◌^◌, ◌≤◌, ℤ, List, Some}
use Rattle.db_format.specs.Seen.{marked}
use Rattle.btree_page.specs.declared.kind.Family.TheVariants.{Table}
use Rattle.btree_walk.specs.Cursor.{IsCursorReady}
use Rattle.btree_walk.specs.Turn.{work}
use Rattle.index_check.proofs.RowLemmas.{AreGiven}
use Rattle.index_check.proofs.window.read_window.Given as goal

abbrev pub invariant-entries : goal.invariant-entries
invariant-entries g l =
    record {
      ready : IsCursorReady (g.S.PageSource.plain l.source).count (g.S.PageSource.pins l.source) l.seen l.cursor;
      read : g.S.PageSource.only_read l.fn.source l.source;
      root : l.cursor.root ≡ l.fn.root;
      asked : l.cursor.asked ≡ Some Table;
      few : l.window.rows + work l.seen l.cursor.path ≤ 2 ^ 53;
      above : l.window.above ≡ l.fn.above;
      on : (rows : List ℤ) × AreGiven g.S.PageSource.tells (g.S.PageSource.plain l.fn.source) l.cursor (marked l.seen) rows l.window;
    }

abbrev pub decreases-entries : goal.decreases-entries
decreases-entries g l = work l.seen l.cursor.path
