use Rattle.std.proofs.Common.{◌≡◌, ◌≤◌, ℕ, List, ◌++◌, ◌+◌, ◌*◌, ◌/◌, take, drop, length, refl, ap, ◌∙◌, arith}
use Rattle.std.proofs.lemmas.List.{length-drop, length-take-le}
use Rattle.sha2.specs.Sha512.{final_hash, hash_after, initial_hash_512, padding}
use Rattle.hash_lanes.specs.Lanes.{words}
use Rattle.hash_lanes.specs.Messages.{message, piece}
use Rattle.hash_lanes.proofs.Parts.{begins_by, words_same}
use Rattle.hash_lanes.proofs.Joined.{whole_hash}
use Rattle.hash_lanes.proofs.message.finished.Goals as goal

pub returns : goal.returns
returns c = λ first sized e.
    let ini = initial_hash_512 in
    let text = c.args.text.now in
    let stride = c.args.stride in
    let len = c.args.len in
    let ends = c.args.ends.now in
    let end_len = c.args.end_len in
    let p = c.args.before / 128 in
    let q = len / 128 in
    let b = c.tail_blocks.result in
    let tails : List ℕ = c.tails-tails.result in
    let begun = c.absorb.ensures (λ _. hash_after ini first p) (c.spread-hashes.ensures ∙ (λ t. words (λ _. e t))) in
    let done = c.absorb-2.ensures (λ i. hash_after (hash_after ini first p) (drop (i * stride) text) q) begun in
    done ∙ words_same (λ i. hash_after (hash_after (hash_after ini first p) (drop (i * stride) text) q) (drop (i * 256) tails) b)
    (λ i. final_hash ini (first ++ message text stride len ends end_len i)) (λ i lt.
    let from : List ℕ = drop (i * stride) text in
    let last : List ℕ = drop (i * 256) tails in
    let end : List ℕ = piece ends end_len end_len i in
    let end_long : length end ≡ end_len = length-take-le end_len (drop (i * end_len) ends)
    (omega (arith, length-drop (i * end_len) ends, c.requires.ends, begins_by i end_len lt)) in
    let within : len ≤ length from = omega (arith, length-drop (i * stride) text, c.requires.text, begins_by i stride lt) in
    let room : b * 128 ≤ length last = omega (arith, c.tail_blocks.ensures.most, length-drop (i * 256) tails, c.tails-tails.type_inv, lt) in
    let place : 128 * q ≡ q * 128 = omega arith in
    let total : c.args.before + len + end_len ≡ p * 128 + len + length end = omega (arith, end_long, c.requires.blocks) in
    whole_hash ini first from last end p q b len (omega (arith, sized, c.requires.blocks)) within refl room
    (ap (λ (k : ℕ). take (k * 128) last) c.tail_blocks.ensures.value ∙ c.tails-tails.ensures i lt
    ∙ (λ t. drop (place t) (take len from) ++ (end ++ padding (total t)))))
