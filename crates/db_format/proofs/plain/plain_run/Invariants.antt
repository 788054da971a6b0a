use Rattle.std.proofs.Common.{◌≡◌, true, take}
use Rattle.std.specs.List.{list_all}
use Rattle.db_format.specs.Text.{is_printable}
use Rattle.db_format.proofs.plain.plain_run.Given as goal

-- the bytes so far stand as themselves
abbrev pub invariant-loop-at : goal.invariant-loop-at
invariant-loop-at l = list_all is_printable (take l.at l.text) ≡ true
