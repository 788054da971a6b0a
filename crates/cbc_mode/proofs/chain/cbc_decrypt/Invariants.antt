use Rattle.std.proofs.Common.{◌*◌, length}
use Rattle.std.specs.Prelude.{min}
use Rattle.cbc_mode.proofs.PieceFacts.{DecryptedPart}
use Rattle.cbc_mode.proofs.chain.cbc_decrypt.Given as goal

abbrev pub invariant-pieces : goal.invariant-pieces
invariant-pieces l = DecryptedPart l.aes l.iv l.fn.text l.text l.before (min (1024 * l.p) (length l.fn.text))
