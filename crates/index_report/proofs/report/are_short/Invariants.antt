use Rattle.std.proofs.Common.{◌≤◌, length, take}
use Rattle.std.specs.List.{All}
use Rattle.db_format.specs.Record.{longest_payload}
use Rattle.schema_map.specs.declared.schema.SchemaRow.{SchemaRow}
use Rattle.index_report.proofs.report.are_short.Given as goal

abbrev pub invariant-loop-row : goal.invariant-loop-row
invariant-loop-row l = All (λ (row : SchemaRow). length row.payload ≤ longest_payload) (take l.row-index l.rows)
