use Rattle.sqlcipher_tool.proofs.DueReports.{done_exports}
use Rattle.sqlcipher_tool.proofs.laws.export_opens_law.Goals as goal

pub returns : goal.returns
returns c = done_exports
