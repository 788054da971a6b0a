use Rattle.std.proofs.Common.{◌≡◌, ◌≤◌, ◌++◌, drop}
use Rattle.db_format.specs.Varint.{leading_bytes}
use Rattle.db_format.proofs.varint.write_leading.Given as goal

abbrev pub invariant-sevens : goal.invariant-sevens
invariant-sevens l = record {
  within : l.at ≤ 8;
  written : leading_bytes l.at l.rest ++ drop l.at l.out ≡ leading_bytes l.count l.number ++ drop l.count l.initial.out;
}

abbrev pub decreases-sevens : goal.decreases-sevens
decreases-sevens l = l.at
