use Rattle.sqlcipher_tool.proofs.DoneAnswers.{migrate_done}
use Rattle.sqlcipher_tool.proofs.laws.migrate_done_law.Goals as goal

pub returns : goal.returns
returns c = migrate_done
