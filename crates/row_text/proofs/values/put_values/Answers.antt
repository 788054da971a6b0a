use Rattle.std.proofs.Common.{◌≡◌, ◌-◌, ◌+◌, ◌++◌, suc, take, arith, rules}
use Rattle.std.specs.Prelude.{codes}
use Rattle.db_format.specs.Value.{datum_of}
use Rattle.db_format.specs.Values.{values_left}
use Rattle.db_format.specs.Text.{spaced, value_text}
use Rattle.row_text.proofs.Moving.{at_exit, completes_more, completes_part, cut, then, then_part}
use Rattle.row_text.proofs.ValueSteps.{next_left, none_left, values_more}
use Rattle.row_text.proofs.values.put_values.Goals as goal

pub returns-in_default-clause-later : goal.returns-in_default-clause-later
returns-in_default-clause-later g c =
    none_left c.loop-written._written c.args.most (values_left c.args.values.now) (values_left c.loop-written.values) (values_left c.next.new.self)
    c.loop-written.invariant.given (omega arith) c.in_default.ensures.steps.0 c.in_default.ensures.steps.1

pub returns-in_err-write-clause-part : goal.returns-in_err-write-clause-part
returns-in_err-write-clause-part g c =
    at_exit c.from_residual.result (λ told.
    let n = c.loop-written._written in
    let fewer : c.args.most - n ≡ suc (c.args.most - (n + 1)) = omega arith in
    let more = values_more _ _ (values_left c.loop-written.values) (values_left c.next.new.self) (datum_of c.in-Some.value) c.in-Some.ensures.steps fewer in
    completes_part (spaced (take (c.args.most - n) (values_left c.loop-written.values))) (spaced (take c.args.most (values_left c.args.values.now)))
    (g.K.Sink.taken c.args.out.now) c.args.line.now (g.K.Sink.taken c.loop-written.out) c.loop-written.line _ (c.loop-written.invariant.rest told)
    (rw more (cut (value_text (datum_of c.in-Some.value) ++ spaced (take (c.args.most - (n + 1)) (values_left c.next.new.self))) (c.in_err-write.ensures.part told))))

pub returns-in_err-put_value-clause-part : goal.returns-in_err-put_value-clause-part
returns-in_err-put_value-clause-part g c =
    at_exit c.from_residual-in_err-put_value.result (λ told.
    let n = c.loop-written._written in
    let fewer : c.args.most - n ≡ suc (c.args.most - (n + 1)) = omega arith in
    let more = values_more _ _ (values_left c.loop-written.values) (values_left c.next.new.self) (datum_of c.in-Some.value) c.in-Some.ensures.steps fewer in
    completes_part (spaced (take (c.args.most - n) (values_left c.loop-written.values))) (spaced (take c.args.most (values_left c.args.values.now)))
    (g.K.Sink.taken c.args.out.now) c.args.line.now (g.K.Sink.taken c.loop-written.out) c.loop-written.line _ (c.loop-written.invariant.rest told)
    (rw more (cut (spaced (take (c.args.most - (n + 1)) (values_left c.next.new.self)))
    (then_part (c.in_ok-write.ensures.done told) (c.in_err-put_value.ensures.part told)))))

pub loop-written-preserved : goal.loop-written-preserved
loop-written-preserved g c =
    let n = c.loop-written._written in
    let fewer : c.args.most - n ≡ suc (c.args.most - (n + 1)) = omega arith in
    let more = values_more _ _ (values_left c.loop-written.values) (values_left c.next.new.self) (datum_of c.in-Some.value) c.in-Some.ensures.steps fewer in
    record {
      given = next_left n (values_left c.args.values.now) (values_left c.loop-written.values) (values_left c.next.new.self) (datum_of c.in-Some.value)
          c.loop-written.invariant.given c.in-Some.ensures.steps;
      rest = λ told.
          completes_more (spaced (take (c.args.most - n) (values_left c.loop-written.values))) (codes " " ++ value_text (datum_of c.in-Some.value))
          (spaced (take (c.args.most - (n + 1)) (values_left c.next.new.self))) (spaced (take c.args.most (values_left c.args.values.now)))
          (g.K.Sink.taken c.args.out.now) c.args.line.now (g.K.Sink.taken c.loop-written.out) c.loop-written.line (g.K.Sink.taken c.put_value.new.out) c.put_value.new.line
          more (c.loop-written.invariant.rest told) (then (c.in_ok-write.ensures.done told) (c.in_ok-put_value.ensures.done told));
      later = search rules;
    }
