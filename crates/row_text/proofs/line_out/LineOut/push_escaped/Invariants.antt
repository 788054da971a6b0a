use Rattle.std.proofs.Common.{◌≡◌, ◌≤◌, ◌+◌, ◌*◌, ◌++◌, length}
use Rattle.db_format.specs.Text.{escaped}
use Rattle.row_text.proofs.line_out.LineOut.push_escaped.Given as goal

-- what waits and the text of what is left are the whole, and there is room for it
abbrev pub invariant-loop-left : goal.invariant-loop-left
invariant-loop-left l = record {
  whole : l.self ++ escaped l.left ≡ l.initial.self ++ escaped l.text;
  room : length l.self + 4 * length l.left ≤ 65536;
}

abbrev pub decreases-loop-left : goal.decreases-loop-left
decreases-loop-left l = length l.left
