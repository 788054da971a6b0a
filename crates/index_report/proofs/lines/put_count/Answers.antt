use Rattle.std.specs.Prelude.{codes, decimal}
use Rattle.std.proofs.lemmas.Result.{on_ok_weaker, on_err_weaker}
use Rattle.db_format.specs.Value.{datum_of}
use Rattle.row_text.proofs.Moving.{at_exit, cut, restated, restated_part, then, then_part}
use Rattle.index_report.proofs.LineSteps.{some_count}
use Rattle.index_report.proofs.lines.put_count.Goals as goal

pub returns-in_err-put_head-clause-part : goal.returns-in_err-put_head-clause-part
returns-in_err-put_head-clause-part g c =
    at_exit c.from_residual.result (λ told.
    restated_part (some_count (datum_of c.args.name.now) c.args.what.now c.args.count c.if-count-eq0.false)
    (cut (codes "\n") (cut c.args.what.now (cut (decimal c.args.count) (c.in_err-put_head.ensures.part told)))))

pub returns-in_err-put_number-clause-part : goal.returns-in_err-put_number-clause-part
returns-in_err-put_number-clause-part g c =
    at_exit c.from_residual-in_err-put_number.result (λ told.
    restated_part (some_count (datum_of c.args.name.now) c.args.what.now c.args.count c.if-count-eq0.false)
    (cut (codes "\n") (cut c.args.what.now (then_part (c.in_ok-put_head.ensures.done told) (c.in_err-put_number.ensures.part told)))))

pub returns-in_err-write-clause-part : goal.returns-in_err-write-clause-part
returns-in_err-write-clause-part g c =
    at_exit c.from_residual-in_err-write.result (λ told.
    restated_part (some_count (datum_of c.args.name.now) c.args.what.now c.args.count c.if-count-eq0.false)
    (cut (codes "\n") (then_part (then (c.in_ok-put_head.ensures.done told) (c.in_ok-put_number.ensures.done told)) (c.in_err-write.ensures.part told))))

pub returns-clause-done : goal.returns-clause-done
returns-clause-done g c =
    on_ok_weaker c.write-2.result (λ done told.
    restated (some_count (datum_of c.args.name.now) c.args.what.now c.args.count c.if-count-eq0.false)
    (then (then (then (c.in_ok-put_head.ensures.done told) (c.in_ok-put_number.ensures.done told)) (c.in_ok-write.ensures.done told)) (done told))) c.write-2.ensures.done

pub returns-clause-part : goal.returns-clause-part
returns-clause-part g c =
    on_err_weaker c.write-2.result (λ part told.
    restated_part (some_count (datum_of c.args.name.now) c.args.what.now c.args.count c.if-count-eq0.false)
    (then_part (then (then (c.in_ok-put_head.ensures.done told) (c.in_ok-put_number.ensures.done told)) (c.in_ok-write.ensures.done told)) (part told))) c.write-2.ensures.part
