use Rattle.std.proofs.Common.{◌≡◌, ◌-◌}
use Rattle.hmac_core.specs.Hmac.{hmac_of_block}
use Rattle.hmac_core.specs.Pbkdf2.{derived_block}
use Rattle.hmac_core.proofs.Links.{summed}
use Rattle.hmac_core.proofs.key_derivation.derive_block.Given as goal

abbrev pub invariant-rounds : goal.invariant-rounds
invariant-rounds g l =
    let prf = hmac_of_block g.H.PageHash.hash l.key in
    summed prf l.out l.link (l.rounds - l.counter) ≡ derived_block prf l.salt l.rounds l.index
