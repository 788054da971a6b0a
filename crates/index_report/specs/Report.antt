-- The text of all indexes of a database, in the order of the schema.
use Rattle.std.specs.Prelude.{ℕ, List, [], ◌∷◌, ◌++◌, map, unwrap_or, if◌then◌else◌}
use Rattle.std.specs.List.{flat_map}
use Rattle.db_format.specs.Pages.{Pages}
use Rattle.db_format.specs.Record.{columns}
use Rattle.db_format.specs.Value.{Datum}
use Rattle.schema_map.specs.Alone.{schema_rows}
use Rattle.schema_map.specs.Schema.{schema_row}
use Rattle.schema_map.specs.declared.schema.SchemaRow.{SchemaRow}
use Rattle.index_report.specs.Lines.{last_line, verdict_text}
use Rattle.index_report.specs.Summary.{summary}
use Rattle.index_report.specs.Verdicts.{column, is_index, verdict}
use Rattle.index_report.specs.declared.summary.Summary.{Summary}
use Rattle.index_report.specs.declared.verdict.Verdict.{Verdict}

abbrev pub values_in : List ℕ → List Datum
values_in payload = unwrap_or (columns payload) []

-- what is found of the index whose schema row among these has this root and payload; nothing where it is none of an index
abbrev pub payload_verdicts : Pages → List SchemaRow → ℕ → List ℕ → List Verdict
payload_verdicts pages rows root payload = if is_index (columns payload) then verdict pages rows root (values_in payload) ∷ [] else []

-- the lines of a verdict on this row
abbrev pub payload_text : List ℕ → List Verdict → List ℕ
payload_text payload verdicts = flat_map (verdict_text (column (values_in payload) 1)) verdicts

abbrev pub row_verdicts : Pages → List SchemaRow → SchemaRow → List Verdict
row_verdicts pages rows row = payload_verdicts pages rows row.root row.payload

abbrev pub row_text : Pages → List SchemaRow → SchemaRow → List ℕ
row_text pages rows row = payload_text row.payload (row_verdicts pages rows row)

-- the rows of the schema as they are kept
abbrev pub kept_rows : Pages → List SchemaRow
kept_rows pages = map schema_row (schema_rows pages)

abbrev pub rows_text : Pages → List SchemaRow → List SchemaRow → List ℕ
rows_text pages all rows = flat_map (row_text pages all) rows

abbrev pub rows_verdicts : Pages → List SchemaRow → List SchemaRow → List Verdict
rows_verdicts pages all rows = flat_map (row_verdicts pages all) rows

-- what is found of the indexes of these rows, in numbers
abbrev pub found_of : Pages → List SchemaRow → Summary
found_of pages rows = summary (rows_verdicts pages rows rows)

-- of all indexes of the database
abbrev pub index_summary : Pages → Summary
index_summary pages = found_of pages (kept_rows pages)

-- the lines of all indexes, and the last line
abbrev pub lines_of : Pages → List SchemaRow → List ℕ
lines_of pages rows = rows_text pages rows rows ++ last_line (found_of pages rows)

abbrev pub index_text : Pages → List ℕ
index_text pages = lines_of pages (kept_rows pages)
