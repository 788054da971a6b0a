use Rattle.std.proofs.Common.{ℕ, ap}
use Rattle.std.specs.Prelude.{codes}
use Rattle.std.proofs.lemmas.Result.{on_ok_weaker, on_err_weaker}
use Rattle.db_format.specs.Value.{datum_of}
use Rattle.index_check.specs.Checked.{surplus}
use Rattle.row_text.proofs.Moving.{at_exit, cut, restated, restated_part, then, then_part}
use Rattle.index_report.specs.Lines.{count_line, rowids_line}
use Rattle.index_report.proofs.lines.put_agreement.Goals as goal

pub returns-in_err-put_rowids-clause-part : goal.returns-in_err-put_rowids-clause-part
returns-in_err-put_rowids-clause-part g c =
    at_exit c.from_residual.result (λ told.
    let name = datum_of c.args.name.now in
    let found = c.args.found.now in
    cut (count_line name (codes " entries beyond one a row") (surplus found))
    (cut (count_line name (codes " entries without a rowid") found.nameless)
    (cut (rowids_line name (codes " entries of no row") found.strangers) (c.in_err-put_rowids.ensures.part told))))

pub returns-in_err-put_rowids-2-clause-part : goal.returns-in_err-put_rowids-2-clause-part
returns-in_err-put_rowids-2-clause-part g c =
    at_exit c.from_residual-in_err-put_rowids-2.result (λ told.
    let name = datum_of c.args.name.now in
    let found = c.args.found.now in
    cut (count_line name (codes " entries beyond one a row") (surplus found))
    (cut (count_line name (codes " entries without a rowid") found.nameless)
    (then_part (c.in_ok-put_rowids.ensures.done told) (c.in_err-put_rowids-2.ensures.part told))))

pub returns-in_err-put_count-clause-part : goal.returns-in_err-put_count-clause-part
returns-in_err-put_count-clause-part g c =
    at_exit c.from_residual-in_err-put_count.result (λ told.
    let name = datum_of c.args.name.now in
    let found = c.args.found.now in
    cut (count_line name (codes " entries beyond one a row") (surplus found))
    (then_part (then (c.in_ok-put_rowids.ensures.done told) (c.in_ok-put_rowids-2.ensures.done told)) (c.in_err-put_count.ensures.part told)))

pub returns-clause-done : goal.returns-clause-done
returns-clause-done g c =
    on_ok_weaker c.put_count-2.result (λ done told.
    let last = ap (λ (n : ℕ). count_line (datum_of c.args.name.now) (codes " entries beyond one a row") n) c.beyond.ensures in
    then (then (then (c.in_ok-put_rowids.ensures.done told) (c.in_ok-put_rowids-2.ensures.done told)) (c.in_ok-put_count.ensures.done told)) (restated last (done told))) c.put_count-2.ensures.done

pub returns-clause-part : goal.returns-clause-part
returns-clause-part g c =
    on_err_weaker c.put_count-2.result (λ part told.
    let last = ap (λ (n : ℕ). count_line (datum_of c.args.name.now) (codes " entries beyond one a row") n) c.beyond.ensures in
    then_part (then (then (c.in_ok-put_rowids.ensures.done told) (c.in_ok-put_rowids-2.ensures.done told)) (c.in_ok-put_count.ensures.done told)) (restated_part last (part told))) c.put_count-2.ensures.part
