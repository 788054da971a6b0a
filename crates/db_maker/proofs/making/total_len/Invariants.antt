use Rattle.std.proofs.Common.{◌≡◌, ◌≤◌, ◌*◌}
use Rattle.db_maker.specs.Rows.{total_len}
use Rattle.db_maker.proofs.making.total_len.Given as goal

-- those of the items so far, at most 4,500 bytes each
abbrev pub invariant-loop-before : goal.invariant-loop-before
invariant-loop-before l = (l.total ≡ total_len l.before) × (l.total ≤ l.before * 4500)
