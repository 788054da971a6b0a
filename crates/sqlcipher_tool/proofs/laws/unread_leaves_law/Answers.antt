use Rattle.sqlcipher_tool.proofs.SamePages.{in_use_same}
use Rattle.sqlcipher_tool.proofs.laws.unread_leaves_law.Goals as goal

pub returns : goal.returns
returns c = in_use_same
