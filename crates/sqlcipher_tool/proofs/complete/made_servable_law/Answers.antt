use Rattle.sqlcipher_tool.proofs.MadeServable.{made_servable}
use Rattle.sqlcipher_tool.proofs.complete.made_servable_law.Goals as goal

pub returns : goal.returns
returns c = made_servable
