use Rattle.std.proofs.Common.{◌≡◌, ◌+◌, ◌-◌, suc, [], ◌++◌, sym, ◌∙◌, arith}
use Rattle.std.specs.Int.{w32, to_be_bytes}
use Rattle.hmac_core.specs.Hmac.{hmac_of_block}
use Rattle.hmac_core.proofs.Links.{summed-first, summed-next, summed-last}
use Rattle.hmac_core.proofs.key_derivation.derive_block.Goals as goal

pub rounds-init : goal.rounds-init
rounds-init g c =
    let prf = hmac_of_block g.H.PageHash.hash c.args.key.now in
    let seeded = c.update-2.ensures _ _ (c.update.ensures _ [] c.start-mac.ensures) in
    let finished = c.finish_whole.ensures _ _ seeded in
    let is_link : c.finish_whole.new.out ≡ prf (c.args.salt.now ++ to_be_bytes w32 c.args.index) =
    cc (finished, c.to_be_bytes.ensures) in
    summed-first prf c.args.salt.now _ _ c.args.rounds c.args.index c.requires.one
    is_link c.copy_from_slice.ensures.after

pub rounds-preserved : goal.rounds-preserved
rounds-preserved g c =
    let prf = hmac_of_block g.H.PageHash.hash c.args.key.now in
    let left = c.args.rounds - c.rounds.counter in
    let more : left ≡ suc (c.args.rounds - (c.rounds.counter + 1)) = omega arith in
    let held = c.update-in-rounds.ensures _ [] c.start-mac-in-rounds.ensures in
    let is_link = c.finish_whole-in-rounds.ensures _ _ held in
    summed-next prf c.rounds.out c.rounds.link _ _ left _ more is_link c.xor_into.ensures ∙ c.rounds.invariant

pub returns : goal.returns
returns g c =
    let prf = hmac_of_block g.H.PageHash.hash c.args.key.now in
    let left = c.args.rounds - c.rounds.counter in
    let none : left ≡ 0 = omega arith in
    sym (summed-last prf c.rounds.out c.rounds.link left none) ∙ c.rounds.invariant
