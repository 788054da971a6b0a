use Rattle.std.proofs.Common.{Result, sym, subst}
use Rattle.std.specs.Prelude.{IfErr}
use Rattle.sqlcipher_tool.specs.Answer.{IsStopStatus}
use Rattle.sqlcipher_tool.specs.Words.{texts}
use Rattle.sqlcipher_tool.specs.declared.status.Status.{Status}
use Rattle.sqlcipher_cli.specs.Exit.{EndsCommand}
use Rattle.sqlcipher_cli.specs.declared.settle.Laid.{Laid}
use Rattle.sqlcipher_cli.specs.declared.settle.Settled.{Settled}
use Rattle.sqlcipher_cli.proofs.Endings.{ends_settle, ends_stopped, ends_unkeyed}
use Rattle.sqlcipher_cli.proofs.settle.settle_with_log.Goals as goal

pub returns-in-Err : goal.returns-in-Err
returns-in-Err c =
    let words = texts c.args.words.now in
    subst (λ (status : Status). EndsCommand words status) (sym c.stopped.ensures)
    (ends_unkeyed words c.args.profile c.in-Err.status c.requires.asked c.in-Err.ensures.ends c.in-Err.ensures.asked)

pub returns-in-Ok-laid : goal.returns-in-Ok-laid
returns-in-Ok-laid c =
    let marks = c.settle_marks-status.ensures in
    ends_settle (texts c.args.words.now) c.args.profile c.settle_marks-status.result c.requires.asked marks.causes.usage (λ failed. absurd (marks.causes.input failed)) marks.drawn

pub returns-in-Err-laid : goal.returns-in-Err-laid
returns-in-Err-laid c = ends_stopped (texts c.args.words.now) c.args.profile c.in-Err-laid.settled.status c.requires.asked
    (subst (λ (laid : Result Laid Settled). IfErr laid (λ settled. IsStopStatus settled.status)) c.in-Err-laid.is c.take_log_in-disk.ensures)
