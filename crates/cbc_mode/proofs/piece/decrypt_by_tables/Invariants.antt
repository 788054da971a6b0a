use Rattle.cbc_mode.specs.Halves.{block_bytes}
use Rattle.cbc_mode.proofs.LoopFacts.{DecryptedUpTo}
use Rattle.cbc_mode.proofs.piece.decrypt_by_tables.Given as goal

abbrev pub invariant-decryption : goal.invariant-decryption
invariant-decryption l = DecryptedUpTo l.aes l.iv l.fn.piece l.piece (block_bytes l.before) l.i
