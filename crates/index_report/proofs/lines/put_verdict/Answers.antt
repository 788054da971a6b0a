use Rattle.std.specs.Prelude.{codes}
use Rattle.std.proofs.lemmas.Result.{on_ok_weaker, on_err_weaker}
use Rattle.row_text.proofs.Moving.{at_exit, cut, restated, restated_part, then, then_part}
use Rattle.index_report.specs.Lines.{why_text}
use Rattle.index_report.proofs.lines.put_verdict.Goals as goal

pub returns-in_err-put_head-in-Unchecked-clause-part : goal.returns-in_err-put_head-in-Unchecked-clause-part
returns-in_err-put_head-in-Unchecked-clause-part g c =
    at_exit c.from_residual.result (λ told. rw c.in-Unchecked.is (
    cut (codes "\n") (cut (why_text c.in-Unchecked.why) (cut (codes "not checked: ") (c.in_err-put_head-in-Unchecked.ensures.part told)))))

pub returns-in_err-write-in-Unchecked-clause-part : goal.returns-in_err-write-in-Unchecked-clause-part
returns-in_err-write-in-Unchecked-clause-part g c =
    at_exit c.from_residual-in_err-write-in-Unchecked.result (λ told. rw c.in-Unchecked.is (
    cut (codes "\n") (cut (why_text c.in-Unchecked.why)
    (then_part (c.in_ok-put_head-in-Unchecked.ensures.done told) (c.in_err-write-in-Unchecked.ensures.part told)))))

pub returns-in_err-write-in-Unchecked-2-clause-part : goal.returns-in_err-write-in-Unchecked-2-clause-part
returns-in_err-write-in-Unchecked-2-clause-part g c =
    at_exit c.from_residual-in_err-write-in-Unchecked-2.result (λ told. rw c.in-Unchecked.is (
    cut (codes "\n") (then_part (then (c.in_ok-put_head-in-Unchecked.ensures.done told) (c.in_ok-write-in-Unchecked.ensures.done told))
    (restated_part c.why_text.ensures (c.in_err-write-in-Unchecked-2.ensures.part told)))))

pub returns-in_ok-write-in-Unchecked-2-clause-done : goal.returns-in_ok-write-in-Unchecked-2-clause-done
returns-in_ok-write-in-Unchecked-2-clause-done g c = rw c.in-Unchecked.is (
    on_ok_weaker c.write-in-Unchecked-2.result (λ done told.
    then (then (then (c.in_ok-put_head-in-Unchecked.ensures.done told) (c.in_ok-write-in-Unchecked.ensures.done told))
    (restated c.why_text.ensures (c.in_ok-write-in-Unchecked-2.ensures.done told))) (done told)) c.write-in-Unchecked-2.ensures.done)

pub returns-in_ok-write-in-Unchecked-2-clause-part : goal.returns-in_ok-write-in-Unchecked-2-clause-part
returns-in_ok-write-in-Unchecked-2-clause-part g c = rw c.in-Unchecked.is (
    on_err_weaker c.write-in-Unchecked-2.result (λ part told.
    then_part (then (then (c.in_ok-put_head-in-Unchecked.ensures.done told) (c.in_ok-write-in-Unchecked.ensures.done told))
    (restated c.why_text.ensures (c.in_ok-write-in-Unchecked-2.ensures.done told))) (part told)) c.write-in-Unchecked-2.ensures.part)
