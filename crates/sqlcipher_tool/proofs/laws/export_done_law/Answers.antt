use Rattle.sqlcipher_tool.proofs.DoneAnswers.{export_done}
use Rattle.sqlcipher_tool.proofs.laws.export_done_law.Goals as goal

pub returns : goal.returns
returns c = export_done
