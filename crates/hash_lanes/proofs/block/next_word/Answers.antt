use Rattle.std.proofs.Common.{refl}
use Rattle.hash_lanes.proofs.block.next_word.Goals as goal

pub returns-clause-value : goal.returns-clause-value
returns-clause-value c = λ f14 f9 f1 f0 e14 e9 e1 e0. rw (c.small_sigma1.ensures f14 e14, c.small_sigma0.ensures f1 e1, e9, e0) refl
