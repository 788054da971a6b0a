use Rattle.std.proofs.Common.{◌≡◌, ◌+◌, ◌≤◌, ◌^◌, length}
use Rattle.std.specs.Option.{option_map}
use Rattle.db_format.specs.Record.{values_in}
use Rattle.db_format.proofs.column.count_columns.Given as goal

abbrev pub invariant-columns : goal.invariant-columns
invariant-columns l = record {
  few : l.count + length l.later_types ≤ 2 ^ 30;
  same : option_map (λ values. length values) (values_in l.types l.body)
      ≡ option_map (λ values. l.count + length values) (values_in l.later_types l.later_body);
}

abbrev pub decreases-columns : goal.decreases-columns
decreases-columns l = length l.later_types
