use Rattle.std.proofs.Common.{◌≡◌, take}
use Rattle.schema_names.specs.Near.{near_names}
use Rattle.schema_names.proofs.near.near_rows.Given as goal

abbrev pub invariant-loop-row : goal.invariant-loop-row
invariant-loop-row l = l.found.items ≡ near_names l.name (take l.row-index l.rows)
