use Rattle.std.proofs.Common.{subst}
use Rattle.aes_block.specs.Aes.{IsKey}
use Rattle.aes_block.proofs.KeyFacts.{IsKey-in}
use Rattle.aes_block.proofs.aes256.Aes256.key_law.Goals as goal

pub returns : goal.returns
returns c = subst IsKey c.self.view_is (IsKey-in c.self.inside.schedule)
