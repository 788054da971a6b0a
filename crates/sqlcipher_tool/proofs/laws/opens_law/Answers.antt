use Rattle.sqlcipher_tool.proofs.SamePages.{opens_same}
use Rattle.sqlcipher_tool.proofs.laws.opens_law.Goals as goal

pub returns : goal.returns
returns c = opens_same
