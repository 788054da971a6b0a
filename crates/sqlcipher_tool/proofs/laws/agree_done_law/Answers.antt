use Rattle.sqlcipher_tool.proofs.DoneAnswers.{agree_done}
use Rattle.sqlcipher_tool.proofs.laws.agree_done_law.Goals as goal

pub returns : goal.returns
returns c = agree_done
