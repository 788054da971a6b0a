use Rattle.sqlcipher_tool.proofs.Completeness.{find_due}
use Rattle.sqlcipher_tool.proofs.laws.find_done_law.Goals as goal

pub returns : goal.returns
returns c = find_due
