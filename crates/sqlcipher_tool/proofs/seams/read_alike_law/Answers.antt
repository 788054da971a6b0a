use Rattle.sqlcipher_tool.proofs.ReadAlike.{content_same, parts_same}
use Rattle.sqlcipher_tool.proofs.seams.read_alike_law.Goals as goal

pub returns : goal.returns
returns c = λ old new all. (parts_same old new all, content_same old new all)
