use Rattle.std.proofs.Common.{rules, ◌≡◌, ◌*◌, ◌<◌, length, ap, ◌∙◌, arith}
use Rattle.std.specs.Int.{div_ceil}
use Rattle.hmac_core.specs.Hmac.{hmac}
use Rattle.hmac_core.specs.Pbkdf2.{derived_key}
use Rattle.hmac_core.proofs.Blocks.{IsLaid-none, IsLaid-next, IsLaid-all}
use Rattle.hmac_core.proofs.key_derivation.pbkdf2.Goals as goal

pub loop-done-init : goal.loop-done-init
loop-done-init g c =
    let prf = hmac g.H.PageHash.hash g.H.PageHash.BLOCK c.args.pass.now in
    IsLaid-none prf c.args.salt.now c.args.rounds g.H.PageHash.OUT c.args.out.now c.told-out

pub loop-done-preserved : goal.loop-done-preserved
loop-done-preserved g c =
    let prf = hmac g.H.PageHash.hash g.H.PageHash.BLOCK c.args.pass.now in
    let out = g.H.PageHash.OUT in
    let done = c.loop-done.done in
    let end = rw c.OUT-2.ensures at c.div_ceil-done-end.ensures in
    let needed : done < div_ceil 32 out = omega (arith, end) in
    let starts = ap (λ n. done * n) c.OUT-in-loop-done.ensures in
    let is_block = rw c.new-key.ensures at c.derive_block.ensures in
    let long : length c.derive_block.new.out ≡ out = c.derive_block.auto.out ∙ search rules in
    let room = rw c.OUT-in-loop-done-2.ensures at c.min-count.ensures in
    IsLaid-next prf c.args.salt.now c.args.rounds out done c.loop-done.out _ c.derive_block.new.out _ _ _
    c.loop-done.invariant g.met.H.PageHash.hash_not_empty needed starts is_block long room
    c.copy_from_slice.ensures.after c.copy_from_slice.ensures.len

pub returns : goal.returns
unfolding derived_key
returns g c =
    let prf = hmac g.H.PageHash.hash g.H.PageHash.BLOCK c.args.pass.now in
    let out = g.H.PageHash.OUT in
    let end = rw c.OUT-2.ensures at c.div_ceil-done-end.ensures in
    let all : c.loop-done.done ≡ div_ceil 32 out = omega (arith, end) in
    IsLaid-all prf c.args.salt.now c.args.rounds out c.loop-done.done c.loop-done.out c.loop-done.invariant
    g.met.H.PageHash.hash_not_empty all
