use Rattle.aes_lanes.proofs.RoundFacts.{RoundsDone}
use Rattle.aes_lanes.proofs.blocks.encrypt_blocks.Given as goal

abbrev pub invariant-rounds : goal.invariant-rounds
invariant-rounds l = RoundsDone l.aes l.text l.s l.i
