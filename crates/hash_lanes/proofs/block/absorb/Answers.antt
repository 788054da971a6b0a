use Rattle.std.proofs.Common.{◌+◌, ◌*◌, drop, ◌∙◌, refl}
use Rattle.sha2.specs.Sha512.{hash_after}
use Rattle.hash_lanes.specs.Lanes.{words}
use Rattle.hash_lanes.proofs.Windows.{block_more}
use Rattle.hash_lanes.proofs.block.absorb.Goals as goal

pub taken-init : goal.taken-init
unfolding hash_after
taken-init c = λ H e. e

pub taken-preserved : goal.taken-preserved
taken-preserved c = λ H e.
    let text = c.args.text.now in
    let k = c.taken.k in
    let stride = c.args.stride in
    c.compress.ensures (λ i. hash_after (H i) (drop (i * stride) text) k) (c.taken.invariant H e)
    ∙ (λ t. words (λ i. block_more (H i) text k (i * stride) (128 * k + i * stride) refl t))
