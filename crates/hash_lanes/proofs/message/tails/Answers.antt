use Rattle.std.proofs.Common.{ℕ, List, zero, suc, ◌+◌, ◌-◌, ◌*◌, take, drop, ap, ◌∙◌, arith}
use Rattle.sha2.specs.Sha512.{padding}
use Rattle.hash_lanes.specs.Messages.{tail_blocks}
use Rattle.hash_lanes.proofs.Parts.{first_of, fourth_of, second_of, tail_at, third_of}
use Rattle.hash_lanes.proofs.message.tails.Goals as goal

pub returns : goal.returns
returns c zero lt =
    let a : List ℕ = c.tail-first.result in
    let s : ℕ = tail_blocks (c.args.len - c.args.at + c.args.end_len) * 128 in
    ap (λ (l : List ℕ). take s (drop (0 * 256) l)) c.joined.ensures
    ∙ first_of a c.tail-second.result c.tail-third.result c.tail-fourth.result 256 s (omega (arith, c.tail-first.type_inv))
    (omega (arith, c.tail-second.type_inv)) (omega (arith, c.tail-third.type_inv)) (omega (arith, c.requires.room))
    ∙ tail_at (λ used. tail_blocks used * 128) a c.part.result.now c.part-2.result.now (padding c.args.total)
    c.args.text.now c.args.ends.now (0 * c.args.stride) c.args.at c.args.len (0 * c.args.end_len)
    c.args.end_len c.args.at 0
    c.requires.within.0 (omega (arith, c.requires.within.1)) (omega (arith, c.requires.ends)) (omega arith) (omega arith)
    c.part.ensures.bytes c.part-2.ensures.bytes c.tail-first.ensures
returns c (suc zero) lt =
    let a : List ℕ = c.tail-second.result in
    let s : ℕ = tail_blocks (c.args.len - c.args.at + c.args.end_len) * 128 in
    ap (λ (l : List ℕ). take s (drop (1 * 256) l)) c.joined.ensures
    ∙ second_of c.tail-first.result a c.tail-third.result c.tail-fourth.result 256 s (omega (arith, c.tail-first.type_inv))
    (omega (arith, c.tail-second.type_inv)) (omega (arith, c.tail-third.type_inv)) (omega (arith, c.requires.room))
    ∙ tail_at (λ used. tail_blocks used * 128) a c.part-3.result.now c.part-4.result.now (padding c.args.total)
    c.args.text.now c.args.ends.now (1 * c.args.stride) c.args.at c.args.len (1 * c.args.end_len)
    c.args.end_len (c.args.stride + c.args.at) c.args.end_len
    c.requires.within.0 (omega (arith, c.requires.within.1)) (omega (arith, c.requires.ends)) (omega arith) (omega arith)
    c.part-3.ensures.bytes c.part-4.ensures.bytes c.tail-second.ensures
returns c (suc (suc zero)) lt =
    let a : List ℕ = c.tail-third.result in
    let s : ℕ = tail_blocks (c.args.len - c.args.at + c.args.end_len) * 128 in
    ap (λ (l : List ℕ). take s (drop (2 * 256) l)) c.joined.ensures
    ∙ third_of c.tail-first.result c.tail-second.result a c.tail-fourth.result 256 s (omega (arith, c.tail-first.type_inv))
    (omega (arith, c.tail-second.type_inv)) (omega (arith, c.tail-third.type_inv)) (omega (arith, c.requires.room))
    ∙ tail_at (λ used. tail_blocks used * 128) a c.part-5.result.now c.part-6.result.now (padding c.args.total)
    c.args.text.now c.args.ends.now (2 * c.args.stride) c.args.at c.args.len (2 * c.args.end_len)
    c.args.end_len (2 * c.args.stride + c.args.at) (2 * c.args.end_len)
    c.requires.within.0 (omega (arith, c.requires.within.1)) (omega (arith, c.requires.ends)) (omega arith) (omega arith)
    c.part-5.ensures.bytes c.part-6.ensures.bytes c.tail-third.ensures
returns c (suc (suc (suc zero))) lt =
    let a : List ℕ = c.tail-fourth.result in
    let s : ℕ = tail_blocks (c.args.len - c.args.at + c.args.end_len) * 128 in
    ap (λ (l : List ℕ). take s (drop (3 * 256) l)) c.joined.ensures
    ∙ fourth_of c.tail-first.result c.tail-second.result c.tail-third.result a 256 s (omega (arith, c.tail-first.type_inv))
    (omega (arith, c.tail-second.type_inv)) (omega (arith, c.tail-third.type_inv)) (omega (arith, c.requires.room))
    ∙ tail_at (λ used. tail_blocks used * 128) a c.part-7.result.now c.part-8.result.now (padding c.args.total)
    c.args.text.now c.args.ends.now (3 * c.args.stride) c.args.at c.args.len (3 * c.args.end_len)
    c.args.end_len (3 * c.args.stride + c.args.at) (3 * c.args.end_len)
    c.requires.within.0 (omega (arith, c.requires.within.1)) (omega (arith, c.requires.ends)) (omega arith) (omega arith)
    c.part-7.ensures.bytes c.part-8.ensures.bytes c.tail-fourth.ensures
returns c (suc (suc (suc (suc i)))) lt = absurd (omega arith)
