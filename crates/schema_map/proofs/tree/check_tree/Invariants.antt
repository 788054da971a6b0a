use Rattle.std.proofs.Common.{◌≡◌, ◌+◌, ◌*◌, ◌^◌, ◌≤◌, List, [], None, length}
use Rattle.std.specs.Prelude.{IsTrue}
use Rattle.db_format.specs.Seen.{marked, open_count}
use Rattle.btree_model.specs.Finding.{Row}
use Rattle.btree_model.specs.Records.{record_faults}
use Rattle.btree_walk.specs.Cursor.{IsCursorAt, IsCursorReady}
use Rattle.btree_walk.specs.Turn.{work}
use Rattle.schema_map.proofs.tree.check_tree.Given as goal

abbrev pub invariant-entries : goal.invariant-entries
invariant-entries g l =
    record {
      ready : IsCursorReady (g.S.PageSource.plain l.source).count (g.S.PageSource.pins l.source) l.seen l.cursor;
      read : g.S.PageSource.only_read l.fn.source l.source;
      root : l.cursor.root ≡ l.fn.root;
      asked : l.cursor.asked ≡ None;
      few : l.rows + work l.seen l.cursor.path ≤ 2 ^ 21 * open_count l.fn.seen;
      on : IsTrue g.S.PageSource.tells → (given : List Row)
          × IsCursorAt (g.S.PageSource.plain l.fn.source) (marked l.fn.seen) given l.cursor (marked l.seen)
          × (record_faults given ≡ []) × (l.rows ≡ length given);
    }

abbrev pub decreases-entries : goal.decreases-entries
decreases-entries g l = work l.seen l.cursor.path
