use Rattle.std.proofs.Common.{◌≤◌, IsTrue, length}
use Rattle.row_text.proofs.Moving.{Completes}
use Rattle.row_text.proofs.line_out.LineOut.write.Given as goal

-- where what is left is moved too, the whole is
abbrev pub invariant-loop-left : goal.invariant-loop-left
invariant-loop-left g l = record {
  rest : IsTrue g.K.Sink.tells → Completes l.left l.text (g.K.Sink.taken l.initial.out) l.initial.self (g.K.Sink.taken l.out) l.self;
  later : g.K.Sink.faults l.initial.out ≤ g.K.Sink.faults l.out;
}

abbrev pub decreases-loop-left : goal.decreases-loop-left
decreases-loop-left g l = length l.left
