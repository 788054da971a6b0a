use Rattle.std.proofs.Common.{◌≡◌, ◌+◌, ◌*◌, ◌^◌, ◌≤◌, List, [], Some, map, vec_len}
use Rattle.std.specs.Prelude.{IsTrue}
use Rattle.std.specs.List.{All}
use Rattle.db_format.specs.Seen.{marked, open_count}
use Rattle.btree_page.specs.declared.kind.Family.TheVariants.{Table}
use Rattle.btree_model.specs.Finding.{Row}
use Rattle.btree_model.specs.Records.{record_faults}
use Rattle.btree_model.specs.Schema.{schema_faults}
use Rattle.btree_walk.specs.Cursor.{IsCursorAt, IsCursorReady}
use Rattle.btree_walk.specs.Turn.{work}
use Rattle.schema_map.specs.Schema.{schema_row}
use Rattle.schema_map.specs.declared.schema.SchemaRow.{SchemaRow}
use Rattle.schema_map.proofs.schema.read_schema.Given as goal

abbrev pub invariant-entries : goal.invariant-entries
invariant-entries g l =
    record {
      ready : IsCursorReady (g.S.PageSource.plain l.source).count (g.S.PageSource.pins l.source) l.seen l.cursor;
      read : g.S.PageSource.only_read l.fn.source l.source;
      root : l.cursor.root ≡ 1;
      asked : l.cursor.asked ≡ Some Table;
      few : vec_len l.rows + work l.seen l.cursor.path ≤ 2 ^ 21 * open_count l.fn.seen;
      high : All (λ (row : SchemaRow). row.root ≤ (g.S.PageSource.plain l.fn.source).count) l.rows.items;
      on : IsTrue g.S.PageSource.tells → (given : List Row)
          × IsCursorAt (g.S.PageSource.plain l.fn.source) (marked l.fn.seen) given l.cursor (marked l.seen)
          × (record_faults given ≡ []) × (schema_faults (g.S.PageSource.plain l.fn.source) given ≡ [])
          × (l.rows.items ≡ map schema_row given);
    }

abbrev pub decreases-entries : goal.decreases-entries
decreases-entries g l = work l.seen l.cursor.path
