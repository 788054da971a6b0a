use Rattle.std.proofs.Common.{◌≡◌, drop}
use Rattle.index_report.specs.Verdicts.{named_root}
use Rattle.index_report.proofs.judge.root_of_table.Given as goal

abbrev pub invariant-loop-row : goal.invariant-loop-row
invariant-loop-row l = record { on : named_root l.name (drop l.row-index l.rows) ≡ named_root l.name l.rows }
