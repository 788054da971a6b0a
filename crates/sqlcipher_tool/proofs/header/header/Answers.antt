use Rattle.std.proofs.Common.{ap}
use Rattle.sqlcipher_tool.specs.Header.{header_answer}
use Rattle.edge_model.specs.Files.{main_of}
use Rattle.sqlcipher_tool.proofs.Conclusions.{outcome_status, outcome_text}
use Rattle.sqlcipher_tool.proofs.header.header.Goals as goal

pub returns-clause-status : goal.returns-clause-status
returns-clause-status g c = λ told.
    outcome_status c.describe_main-outcome.result
    (header_answer c.args.profile c.args.secret.now (main_of (g.D.Disk.reads c.args.disk.now))) c.conclude_outcome.result
    (c.describe_main-outcome.ensures.told told) c.conclude_outcome.ensures.status
    (λ is. (c.conclude_outcome.ensures.disk is).0) (λ is. (c.conclude_outcome.ensures.memory is).0)

pub returns-clause-text : goal.returns-clause-text
returns-clause-text g c = λ printed told.
    outcome_text c.describe_main-outcome.result
    (header_answer c.args.profile c.args.secret.now (main_of (g.D.Disk.reads c.args.disk.now))) c.conclude_outcome.result
    (g.S.Sink.taken c.args.out.now) (g.S.Sink.taken c.conclude_outcome.new.out)
    (c.describe_main-outcome.ensures.told told)
    (λ answer is. c.conclude_outcome.ensures.text answer is printed)
    (λ is. let failed = c.conclude_outcome.ensures.disk is in (failed.0, ap g.S.Sink.taken failed.1))
    (λ is. let starved = c.conclude_outcome.ensures.memory is in (starved.0, ap g.S.Sink.taken starved.1))
