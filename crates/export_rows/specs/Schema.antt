-- The rows of a schema as they are kept, and their text.
use Rattle.std.specs.Prelude.{◌≡◌, ◌<◌, ◌^◌, ℕ, true, List, map}
use Rattle.std.specs.List.{flat_map}
use Rattle.db_format.specs.Pages.{Pages}
use Rattle.btree_model.specs.Parts.{counts, is_database}
use Rattle.schema_map.specs.Alone.{schema_rows}
use Rattle.schema_map.specs.Schema.{schema_row}
use Rattle.schema_map.specs.declared.schema.SchemaRow.{SchemaRow}
use Rattle.export_rows.specs.Report.{item_at, item_count, item_text}

-- these are the rows of the schema of a database without a defect; the entries of its trees can be counted
pub record IsSchemaOf (pages : Pages) (rows : List SchemaRow) : Type 0 where
  pub sound : is_database pages ≡ true
  pub are : rows ≡ map schema_row (schema_rows pages)
  pub few : (counts pages).rows < 2 ^ 64

abbrev pub kept_text : Pages → SchemaRow → List ℕ
kept_text pages row = item_text (item_at pages row.rowid row.payload)

abbrev pub schema_rows_text : Pages → List SchemaRow → List ℕ
schema_rows_text pages rows = flat_map (kept_text pages) rows

abbrev pub row_count : Pages → SchemaRow → ℕ
row_count pages row = item_count (item_at pages row.rowid row.payload)
