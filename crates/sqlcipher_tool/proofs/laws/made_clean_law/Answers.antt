use Rattle.sqlcipher_tool.proofs.MadeFile.{made_clean}
use Rattle.sqlcipher_tool.proofs.laws.made_clean_law.Goals as goal

pub returns : goal.returns
returns c = made_clean
