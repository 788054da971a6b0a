use Rattle.sqlcipher_tool.proofs.DueReports.{done_rekeys}
use Rattle.sqlcipher_tool.proofs.laws.rekey_clean_law.Goals as goal

pub returns : goal.returns
returns c = done_rekeys
