use Rattle.sqlcipher_tool.proofs.SettledDone.{settled_clean}
use Rattle.sqlcipher_tool.proofs.seams.settled_clean_law.Goals as goal

pub returns : goal.returns
returns c = settled_clean
