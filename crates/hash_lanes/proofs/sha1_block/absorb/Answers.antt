use Rattle.std.proofs.Common.{◌+◌, ◌*◌, drop, ◌∙◌, refl}
use Rattle.hash_lanes.specs.Sha1Lanes.{five, hash_from}
use Rattle.hash_lanes.proofs.Sha1Windows.{block_more}
use Rattle.hash_lanes.proofs.sha1_block.absorb.Goals as goal

pub taken-init : goal.taken-init
unfolding hash_from
taken-init c = λ H e. e

pub taken-preserved : goal.taken-preserved
taken-preserved c = λ H e.
    let text = c.args.text.now in
    let k = c.taken.k in
    let stride = c.args.stride in
    c.compress.ensures (λ i. hash_from (H i) (drop (i * stride) text) k) (c.taken.invariant H e)
    ∙ (λ t. five (λ i. block_more (H i) text k (i * stride) (64 * k + i * stride) refl t))
