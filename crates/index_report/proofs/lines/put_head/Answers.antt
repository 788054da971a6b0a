use Rattle.std.proofs.Common.{◌++◌}
use Rattle.std.specs.Prelude.{codes}
use Rattle.std.proofs.lemmas.Result.{on_ok_weaker, on_err_weaker}
use Rattle.db_format.specs.Text.{value_text}
use Rattle.db_format.specs.Value.{datum_of}
use Rattle.row_text.proofs.Moving.{at_exit, cut, then, then_part}
use Rattle.index_report.proofs.lines.put_head.Goals as goal

pub returns-in_err-write-clause-part : goal.returns-in_err-write-clause-part
returns-in_err-write-clause-part g c =
    at_exit c.from_residual.result (λ told. cut (value_text (datum_of c.args.name.now) ++ codes ": ") (c.in_err-write.ensures.part told))

pub returns-in_err-put_value-clause-part : goal.returns-in_err-put_value-clause-part
returns-in_err-put_value-clause-part g c =
    at_exit c.from_residual-in_err-put_value.result (λ told. then_part (c.in_ok-write.ensures.done told) (cut (codes ": ") (c.in_err-put_value.ensures.part told)))

pub returns-clause-done : goal.returns-clause-done
returns-clause-done g c =
    on_ok_weaker c.write-2.result (λ done told. then (c.in_ok-write.ensures.done told) (then (c.in_ok-put_value.ensures.done told) (done told))) c.write-2.ensures.done

pub returns-clause-part : goal.returns-clause-part
returns-clause-part g c =
    on_err_weaker c.write-2.result (λ part told. then_part (c.in_ok-write.ensures.done told) (then_part (c.in_ok-put_value.ensures.done told) (part told))) c.write-2.ensures.part
