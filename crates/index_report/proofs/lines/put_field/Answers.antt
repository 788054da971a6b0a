use Rattle.std.specs.Prelude.{decimal}
use Rattle.std.proofs.lemmas.Result.{on_err_weaker}
use Rattle.row_text.proofs.Moving.{at_exit, cut, then_part}
use Rattle.index_report.proofs.lines.put_field.Goals as goal

pub returns-in_err-write-clause-part : goal.returns-in_err-write-clause-part
returns-in_err-write-clause-part g c = at_exit c.from_residual.result (λ told. cut (decimal c.args.number) (c.in_err-write.ensures.part told))

pub returns-clause-part : goal.returns-clause-part
returns-clause-part g c = on_err_weaker c.put_number.result (λ part told. then_part (c.in_ok-write.ensures.done told) (part told)) c.put_number.ensures.part
