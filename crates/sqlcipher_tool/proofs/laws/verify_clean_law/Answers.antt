use Rattle.sqlcipher_tool.proofs.DueReports.{done_verifies}
use Rattle.sqlcipher_tool.proofs.laws.verify_clean_law.Goals as goal

pub returns : goal.returns
returns c = done_verifies
