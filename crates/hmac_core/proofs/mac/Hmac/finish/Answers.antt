use Rattle.std.proofs.Common.{◌≡◌, ◌≤◌, length, take, ◌∙◌, arith}
use Rattle.std.proofs.lemmas.Grind.{common_steps}
use Rattle.std.proofs.lemmas.List.{take_all}
use Rattle.hmac_core.specs.Hmac.{hmac_of_block}
use Rattle.hmac_core.proofs.HmacLemmas.{length-hmac_of_block}
use Rattle.hmac_core.proofs.mac.Hmac.finish.Goals as goal

pub returns-clause-whole : goal.returns-clause-whole
returns-clause-whole g c = λ k0 m held full.
    let tag = hmac_of_block g.H.PageHash.hash k0 m in
    let is_tag = c.finish_whole.ensures k0 m held in
    let leading : c.copy_from_slice.new.self ≡ take (length c.args.out.now) tag = grind (arith, common_steps) in
    let sized = length-hmac_of_block g.H.PageHash.hash g.H.PageHash.OUT g.met.H.PageHash.hash_length k0 m in
    let within : length tag ≤ length c.args.out.now = omega (arith, sized, full) in
    leading ∙ take_all (length c.args.out.now) tag within
