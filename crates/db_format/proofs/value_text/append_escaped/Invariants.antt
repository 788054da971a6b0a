use Rattle.std.proofs.Common.{◌≡◌, ◌++◌, length}
use Rattle.std.specs.Io.{StartsWith}
use Rattle.db_format.specs.Text.{escaped}
use Rattle.db_format.proofs.value_text.append_escaped.Given as goal

-- the text before and so far, and the text of what is left, are the whole
abbrev pub invariant-loop-left : goal.invariant-loop-left
invariant-loop-left l =
    record {
      begins : StartsWith l.out.items l.fn.out.items;
      whole : l.out.items ++ escaped l.left ≡ l.fn.out.items ++ escaped l.text;
    }

abbrev pub decreases-loop-left : goal.decreases-loop-left
decreases-loop-left l = length l.left
