use Rattle.std.proofs.Common.{◌≡◌, take, bit_xor, subst}
use Rattle.std.proofs.lemmas.List.{take-map}
use Rattle.hmac_core.specs.Hmac.{xor_each}
use Rattle.hmac_core.proofs.mac.keyed.Goals as goal

pub returns : goal.returns
returns g c =
    let cut = take-map (λ x. bit_xor x c.args.byte) g.H.PageHash.BLOCK c.args.block.now in
    let piece : take c.BLOCK.result c.xor_each-key.result
    ≡ xor_each c.args.byte (take g.H.PageHash.BLOCK c.args.block.now) =
    cc (cut, c.BLOCK.ensures, c.xor_each-key.ensures) in
    subst (g.H.PageHash.holds c.update.new.self) piece (c.update.ensures _ c.start-hasher.ensures)
