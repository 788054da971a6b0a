use Rattle.sqlcipher_tool.proofs.DoneAnswers.{verify_done}
use Rattle.sqlcipher_tool.proofs.laws.verify_done_law.Goals as goal

pub returns : goal.returns
returns c = verify_done
