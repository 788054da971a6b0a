use Rattle.std.proofs.Common.{◌++◌}
use Rattle.std.specs.Prelude.{codes, decimal}
use Rattle.std.proofs.lemmas.Result.{on_ok_weaker, on_err_weaker}
use Rattle.row_text.proofs.Moving.{at_exit, cut, restated, restated_part, then, then_part}
use Rattle.index_report.proofs.LineSteps.{differ_line, ok_line}
use Rattle.index_report.proofs.lines.put_last.Goals as goal

pub returns-in_err-put_field-clause-part : goal.returns-in_err-put_field-clause-part
returns-in_err-put_field-clause-part g c =
    at_exit c.from_residual.result (λ told.
    let found = c.args.found.now in
    restated_part (ok_line found c.if-found-eq0.true)
    (cut (codes " not checked\n") (cut (codes " entries, " ++ decimal found.unchecked) (cut (codes " indexes, " ++ decimal found.entries) (c.in_err-put_field.ensures.part told)))))

pub returns-in_err-put_field-2-clause-part : goal.returns-in_err-put_field-2-clause-part
returns-in_err-put_field-2-clause-part g c =
    at_exit c.from_residual-in_err-put_field-2.result (λ told.
    let found = c.args.found.now in
    restated_part (ok_line found c.if-found-eq0.true)
    (cut (codes " not checked\n") (cut (codes " entries, " ++ decimal found.unchecked) (then_part (c.in_ok-put_field.ensures.done told) (c.in_err-put_field-2.ensures.part told)))))

pub returns-in_err-put_field-3-clause-part : goal.returns-in_err-put_field-3-clause-part
returns-in_err-put_field-3-clause-part g c =
    at_exit c.from_residual-in_err-put_field-3.result (λ told.
    restated_part (ok_line c.args.found.now c.if-found-eq0.true)
    (cut (codes " not checked\n") (then_part (then (c.in_ok-put_field.ensures.done told) (c.in_ok-put_field-2.ensures.done told)) (c.in_err-put_field-3.ensures.part told))))

pub returns-then-found-eq0-clause-done : goal.returns-then-found-eq0-clause-done
returns-then-found-eq0-clause-done g c =
    on_ok_weaker c.write.result (λ done told.
    restated (ok_line c.args.found.now c.if-found-eq0.true)
    (then (then (then (c.in_ok-put_field.ensures.done told) (c.in_ok-put_field-2.ensures.done told)) (c.in_ok-put_field-3.ensures.done told)) (done told))) c.write.ensures.done

pub returns-then-found-eq0-clause-part : goal.returns-then-found-eq0-clause-part
returns-then-found-eq0-clause-part g c =
    on_err_weaker c.write.result (λ part told.
    restated_part (ok_line c.args.found.now c.if-found-eq0.true)
    (then_part (then (then (c.in_ok-put_field.ensures.done told) (c.in_ok-put_field-2.ensures.done told)) (c.in_ok-put_field-3.ensures.done told)) (part told))) c.write.ensures.part

pub returns-in_err-put_field-4-clause-part : goal.returns-in_err-put_field-4-clause-part
returns-in_err-put_field-4-clause-part g c =
    at_exit c.from_residual-in_err-put_field-4.result (λ told.
    let found = c.args.found.now in
    restated_part (differ_line found c.if-found-eq0.false)
    (cut (codes "\n") (cut (codes " of " ++ decimal found.checked) (c.in_err-put_field-4.ensures.part told))))

pub returns-in_err-put_field-5-clause-part : goal.returns-in_err-put_field-5-clause-part
returns-in_err-put_field-5-clause-part g c =
    at_exit c.from_residual-in_err-put_field-5.result (λ told.
    restated_part (differ_line c.args.found.now c.if-found-eq0.false)
    (cut (codes "\n") (then_part (c.in_ok-put_field-4.ensures.done told) (c.in_err-put_field-5.ensures.part told))))

pub returns-clause-done : goal.returns-clause-done
returns-clause-done g c =
    on_ok_weaker c.write-2.result (λ done told.
    restated (differ_line c.args.found.now c.if-found-eq0.false)
    (then (then (c.in_ok-put_field-4.ensures.done told) (c.in_ok-put_field-5.ensures.done told)) (done told))) c.write-2.ensures.done

pub returns-clause-part : goal.returns-clause-part
returns-clause-part g c =
    on_err_weaker c.write-2.result (λ part told.
    restated_part (differ_line c.args.found.now c.if-found-eq0.false)
    (then_part (then (c.in_ok-put_field-4.ensures.done told) (c.in_ok-put_field-5.ensures.done told)) (part told))) c.write-2.ensures.part
