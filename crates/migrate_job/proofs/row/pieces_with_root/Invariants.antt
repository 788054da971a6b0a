use Rattle.std.proofs.Common.{◌≡◌, take, drop}
use Rattle.db_format.specs.Values.{values_left}
use Rattle.migrate_job.specs.Copied.{row_values}
use Rattle.migrate_job.proofs.row.pieces_with_root.Given as goal

-- so many values were given, and so many of the new row were pushed
abbrev pub invariant-loop-column : goal.invariant-loop-column
invariant-loop-column l = (values_left l.values ≡ drop l.column l.old) × (l.row ≡ take l.column (row_values l.root l.old))
