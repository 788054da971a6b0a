use Rattle.std.proofs.Common.{◌∙◌}
use Rattle.sqlcipher_cli.specs.Named.{word_of}
use Rattle.sqlcipher_cli.proofs.Naming.{alters_found, unfound}
use Rattle.sqlcipher_cli.proofs.asked.Asked.changes_file.Goals as goal

pub returns-in-Some : goal.returns-in-Some
returns-in-Some c = λ command formed. c.changes_file.ensures ∙ alters_found c.in-Some.word command (c.in-Some.ensures.carried command formed)

pub returns-in-None : goal.returns-in-None
returns-in-None c = λ command formed. absurd (unfound (word_of command) (c.in-None.ensures.carried command formed))
