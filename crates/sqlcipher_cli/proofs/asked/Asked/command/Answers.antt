use Rattle.std.proofs.Common.{◌∙◌}
use Rattle.sqlcipher_tool.specs.Words.{texts}
use Rattle.sqlcipher_cli.proofs.Naming.{carried, plays}
use Rattle.sqlcipher_cli.proofs.asked.Asked.command.Goals as goal

pub returns-clause-carried : goal.returns-clause-carried
returns-clause-carried c = λ command formed. c.command_of.ensures ∙ carried (texts c.args.self.now.words.now) command formed

pub returns-clause-played : goal.returns-clause-played
returns-clause-played c = λ profile formed. c.command_of.ensures ∙ plays (texts c.args.self.now.words.now) profile formed
