use Rattle.sqlcipher_tool.proofs.DueReports.{done_migrates}
use Rattle.sqlcipher_tool.proofs.laws.migrate_source_law.Goals as goal

pub returns : goal.returns
returns c = done_migrates
