use Rattle.std.proofs.Common.{◌≡◌, ℕ, ◌∷◌, ◌++◌, ◌+◌, ◌-◌, ◌*◌, ◌%◌, ◌^◌, replicate, length, take, ap, ◌∙◌, arith}
use Rattle.std.specs.Int.{w64, to_be_bytes}
use Rattle.hash_lanes.specs.Sha1Lanes.{tail_blocks}
use Rattle.hash_lanes.proofs.sha1_message.tail.Goals as goal

pub returns : goal.returns
returns c =
    let total : ℕ = c.args.total in
    let used : ℕ = length c.args.rest.now + length c.args.end.now in
    let size : ℕ = 64 * c.tail_blocks-size.result in
    let blocks : c.tail_blocks-size.result ≡ tail_blocks used = c.tail_blocks-size.ensures.value in
    let bits : total % 2 ^ 61 * 8 ≡ total * 8 % 2 ^ 64 = omega arith in
    let count : c.to_be_bytes.result ≡ to_be_bytes w64 (total * 8 % 2 ^ 64) = c.to_be_bytes.ensures ∙ ap (to_be_bytes w64) bits in
    let count_long : length c.to_be_bytes.result ≡ 8 = ap length count in
    let place : tail_blocks used * 64 ≡ size = omega (arith, blocks) in
    let zeros : size - length c.to_be_bytes.result - used - 1 ≡ (119 - total % 64) % 64 =
    omega (arith, blocks, count_long, c.requires.room, c.requires.total) in
    ap (λ (n : ℕ). take n c.padded.result) place ∙ c.padded.ensures
    ∙ (λ t. c.args.rest.now ++ (c.args.end.now ++ (0x80 ∷ replicate (zeros t) 0 ++ count t)))
