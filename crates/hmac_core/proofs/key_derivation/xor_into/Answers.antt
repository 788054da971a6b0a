use Rattle.std.proofs.Common.{sym, ◌∙◌, arith}
use Rattle.std.proofs.lemmas.List.{ext_get_or}
use Rattle.hmac_core.proofs.XorFacts.{length-xor_bytes, get_or-xor_bytes}
use Rattle.hmac_core.proofs.key_derivation.xor_into.Goals as goal

pub returns : goal.returns
returns c =
    let same_length = length-xor_bytes c.args.sum.now c.args.link.now c.requires in
    ext_get_or 0 _ _ (omega (arith, same_length))
    (λ k within. c.loop-i.invariant.done k (omega arith)
    ∙ sym (get_or-xor_bytes c.args.sum.now c.args.link.now k c.requires (omega arith)))
