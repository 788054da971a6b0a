use Rattle.sqlcipher_tool.specs.Recovered.{recovery_of}
use Rattle.sqlcipher_tool.proofs.Conclusions.{outcome_told}
use Rattle.sqlcipher_tool.proofs.recovery.describe_recovery.Goals as goal

pub returns-in-Err-clause-told : goal.returns-in-Err-clause-told
returns-in-Err-clause-told g c =
    λ told. outcome_told c.in-Err.stop (recovery_of c.args.profile (g.D.Disk.reads c.args.disk.now)) (c.in-Err.ensures.stop told)
