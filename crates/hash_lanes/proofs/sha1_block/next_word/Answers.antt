use Rattle.std.proofs.Common.{refl}
use Rattle.std.specs.Prelude.{bit_xor}
use Rattle.hash_lanes.proofs.sha1_block.next_word.Goals as goal

pub returns-clause-value : goal.returns-clause-value
returns-clause-value c = λ f13 f8 f2 f0 e13 e8 e2 e0.
    c.rotate_left-word.ensures (λ i. bit_xor (bit_xor (bit_xor (f13 i) (f8 i)) (f2 i)) (f0 i)) (rw (e13, e8, e2, e0) refl)
