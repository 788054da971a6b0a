use Rattle.sqlcipher_tool.proofs.Completeness.{complete}
use Rattle.sqlcipher_tool.proofs.complete.complete_law.Goals as goal

pub returns : goal.returns
returns c = complete
