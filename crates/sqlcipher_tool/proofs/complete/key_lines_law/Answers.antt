use Rattle.sqlcipher_tool.proofs.Answered.{lines_many}
use Rattle.sqlcipher_tool.proofs.complete.key_lines_law.Goals as goal

pub returns : goal.returns
returns c = lines_many
