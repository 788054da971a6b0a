use Rattle.sqlcipher_tool.proofs.DueReports.{done_agrees}
use Rattle.sqlcipher_tool.proofs.laws.agree_law.Goals as goal

pub returns : goal.returns
returns c = done_agrees
