use Rattle.sqlcipher_tool.proofs.DoneAnswers.{rekey_done}
use Rattle.sqlcipher_tool.proofs.laws.rekey_done_law.Goals as goal

pub returns : goal.returns
returns c = rekey_done
