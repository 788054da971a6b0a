use Rattle.std.proofs.Common.{◌≡◌, ◌≤◌, ℕ, List, ◌++◌, length, drop, replicate, ap, sym, ◌∙◌, arith, length-append, length-drop, refl}
use Rattle.std.proofs.lemmas.List.{take_all}
use Rattle.sha1.specs.Sha1.{sha1}
use Rattle.hmac_core.proofs.KeyBlock.{key_block-short}
use Rattle.hash_lanes.proofs.sha1_mac.key_block.Goals as goal

pub returns : goal.returns
returns c =
    let key : List ℕ = c.args.key.now in
    let laid : List ℕ = c.copy_from_slice.new.self in
    let zeros : List ℕ = replicate 64 0 in
    let zeros_long : length zeros ≡ 64 = refl in
    let long : length (laid ++ drop (length key) zeros) ≤ 64 =
    omega (
      arith,
      length-append laid (drop (length key) zeros),
      length-drop (length key) zeros,
      zeros_long,
      ap length c.copy_from_slice.ensures.after,
      c.requires,
    ) in
    sym (take_all 64 (laid ++ drop (length key) zeros) long)
    ∙ key_block-short sha1 64 64 key laid c.requires c.copy_from_slice.ensures.after (omega arith)
