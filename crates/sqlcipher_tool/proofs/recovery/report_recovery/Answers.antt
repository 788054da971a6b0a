use Rattle.std.proofs.Common.{ap}
use Rattle.sqlcipher_tool.specs.Recovered.{recovery_answer, recovery_of}
use Rattle.sqlcipher_tool.proofs.Behind.{outcome_done, outcome_left}
use Rattle.sqlcipher_tool.proofs.Conclusions.{outcome_text}
use Rattle.sqlcipher_tool.proofs.recovery.report_recovery.Goals as goal

pub returns-clause-text : goal.returns-clause-text
returns-clause-text g c = λ printed told.
    outcome_text c.describe_recovery-outcome.result
    (recovery_answer (recovery_of c.args.profile (g.D.Disk.reads c.args.disk.now))) c.conclude_outcome.result
    (g.S.Sink.taken c.args.out.now) (g.S.Sink.taken c.conclude_outcome.new.out)
    (c.describe_recovery-outcome.ensures.told told)
    (λ answer is. c.conclude_outcome.ensures.text answer is printed)
    (λ is. let failed = c.conclude_outcome.ensures.disk is in (failed.0, ap g.S.Sink.taken failed.1))
    (λ is. let starved = c.conclude_outcome.ensures.memory is in (starved.0, ap g.S.Sink.taken starved.1))

pub returns-clause-recovered : goal.returns-clause-recovered
returns-clause-recovered g c = λ told has byte.
    outcome_done c.describe_recovery-outcome.result c.conclude_outcome.result c.describe_recovery-outcome.ensures.of_recovery c.conclude_outcome.ensures.status
    (λ is. (c.conclude_outcome.ensures.disk is).0) (λ is. (c.conclude_outcome.ensures.memory is).0)
    c.describe_recovery-outcome.ensures.done has told byte

pub returns-clause-left : goal.returns-clause-left
returns-clause-left g c = λ told no_fault.
    outcome_left c.describe_recovery-outcome.result c.conclude_outcome.result c.describe_recovery-outcome.ensures.done c.describe_recovery-outcome.ensures.unwritten
    (λ is. (c.conclude_outcome.ensures.disk is).0) told no_fault
