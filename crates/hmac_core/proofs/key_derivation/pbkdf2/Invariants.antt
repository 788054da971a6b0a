use Rattle.hmac_core.specs.Hmac.{hmac}
use Rattle.hmac_core.proofs.Blocks.{IsLaid}
use Rattle.hmac_core.proofs.key_derivation.pbkdf2.Given as goal

abbrev pub invariant-loop-done : goal.invariant-loop-done
invariant-loop-done g l =
    let prf = hmac g.H.PageHash.hash g.H.PageHash.BLOCK l.pass in
    IsLaid prf l.salt l.rounds g.H.PageHash.OUT l.done l.out
