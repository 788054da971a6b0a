use Rattle.std.proofs.Common.{◌≡◌, drop, Some}
use Rattle.db_format.specs.Record.{values_in}
use Rattle.db_format.proofs.record.RecordView.value.Given as goal

abbrev pub invariant-loop-earlier : goal.invariant-loop-earlier
invariant-loop-earlier l = values_in l.types l.body ≡ Some (drop l._earlier l.self)
