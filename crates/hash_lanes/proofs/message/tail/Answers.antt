use Rattle.std.proofs.Common.{◌≡◌, ℕ, ◌∷◌, ◌++◌, ◌+◌, ◌-◌, ◌*◌, ◌%◌, ◌^◌, replicate, length, take, ap, ◌∙◌, arith}
use Rattle.std.specs.Int.{w128, to_be_bytes}
use Rattle.hash_lanes.specs.Messages.{tail_blocks}
use Rattle.hash_lanes.proofs.message.tail.Goals as goal

pub returns : goal.returns
returns c =
    let total : ℕ = c.args.total in
    let used : ℕ = length c.args.rest.now + length c.args.end.now in
    let size : ℕ = 128 * c.tail_blocks-size.result in
    let blocks : c.tail_blocks-size.result ≡ tail_blocks used = c.tail_blocks-size.ensures.value in
    let bits : total * 8 ≡ total * 8 % 2 ^ 128 = omega (arith, c.requires.bits) in
    let count : c.to_be_bytes.result ≡ to_be_bytes w128 (total * 8 % 2 ^ 128) = c.to_be_bytes.ensures ∙ ap (to_be_bytes w128) bits in
    let count_long : length c.to_be_bytes.result ≡ 16 = ap length count in
    let place : tail_blocks used * 128 ≡ size = omega (arith, blocks) in
    let zeros : size - length c.to_be_bytes.result - used - 1 ≡ (239 - total % 128) % 128 =
    omega (arith, blocks, count_long, c.requires.room, c.requires.total) in
    ap (λ (n : ℕ). take n c.padded.result) place ∙ c.padded.ensures
    ∙ (λ t. c.args.rest.now ++ (c.args.end.now ++ (0x80 ∷ replicate (zeros t) 0 ++ count t)))
