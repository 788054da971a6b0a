use Rattle.hmac_core.specs.Hmac.{hmac_of_block}
use Rattle.hmac_core.proofs.mac.Hmac.finish_whole.Goals as goal

pub returns : goal.returns
unfolding hmac_of_block
returns g c = λ k0 m held.
    let inner = c.finish.ensures _ held.inner in
    let outer = c.finish-2.ensures _ (c.update.ensures _ held.outer) in
    cc (inner, outer)
