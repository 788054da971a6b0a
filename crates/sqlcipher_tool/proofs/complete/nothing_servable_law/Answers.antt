use Rattle.sqlcipher_tool.proofs.MadeServable.{nothing_servable}
use Rattle.sqlcipher_tool.proofs.complete.nothing_servable_law.Goals as goal

pub returns : goal.returns
returns c = nothing_servable
