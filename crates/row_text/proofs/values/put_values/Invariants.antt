use Rattle.std.proofs.Common.{◌≡◌, ◌≤◌, ◌-◌, IsTrue, take, drop}
use Rattle.db_format.specs.Values.{values_left}
use Rattle.db_format.specs.Text.{spaced}
use Rattle.row_text.proofs.Moving.{Completes}
use Rattle.row_text.proofs.values.put_values.Given as goal

-- so many values were given; where those that are left are moved too, all are
abbrev pub invariant-loop-written : goal.invariant-loop-written
invariant-loop-written g l = record {
  given : values_left l.values ≡ drop l._written (values_left l.initial.values);
  rest : IsTrue g.K.Sink.tells
      → Completes (spaced (take (l.most - l._written) (values_left l.values))) (spaced (take l.most (values_left l.initial.values)))
      (g.K.Sink.taken l.initial.out) l.initial.line (g.K.Sink.taken l.out) l.line;
  later : g.K.Sink.faults l.initial.out ≤ g.K.Sink.faults l.out;
}
