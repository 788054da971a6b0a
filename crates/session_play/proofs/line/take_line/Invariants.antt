use Rattle.std.proofs.Common.{◌≡◌, ◌++◌, ◌≤◌, IsTrue, length, take, drop}
use Rattle.cipher_profile.specs.KeyLine.{first_line}
use Rattle.session_play.proofs.line.take_line.Given as goal

-- The first `at` bytes of the line stand in the buffer.
abbrev pub invariant-loop-at : goal.invariant-loop-at
invariant-loop-at g l =
    let left = g.K.Source.left in
    let old = left l.initial.source in
    let tells = IsTrue g.K.Source.tells in
    record {
      sized : length l.line ≡ 1101;
      line : tells → first_line old ≡ take l.at l.line ++ first_line (left l.source);
      rest : tells → left l.source ≡ drop l.at old;
      later : g.K.Source.faults l.initial.source ≤ g.K.Source.faults l.source;
    }
