use Rattle.std.proofs.Common.{◌≡◌, ◌≤◌, ℕ, List, ◌++◌, ◌+◌, ◌*◌, ◌/◌, take, drop, length, refl, ap, ◌∙◌, arith}
use Rattle.std.proofs.lemmas.List.{length-drop, length-take-le}
use Rattle.sha1.specs.Sha1.{hash_after, padding}
use Rattle.hash_lanes.specs.Messages.{message, piece}
use Rattle.hash_lanes.specs.Sha1Lanes.{final_hash, five, hash_from}
use Rattle.hash_lanes.proofs.Sha1Parts.{begins_by, five_same, whole_hash}
use Rattle.hash_lanes.proofs.sha1_message.finished.Goals as goal

pub returns : goal.returns
returns c = λ first sized e.
    let text = c.args.text.now in
    let stride = c.args.stride in
    let len = c.args.len in
    let ends = c.args.ends.now in
    let end_len = c.args.end_len in
    let p = c.args.before / 64 in
    let q = len / 64 in
    let b = c.tail_blocks.result in
    let tails : List ℕ = c.tails-tails.result in
    let begun = c.absorb.ensures (λ _. hash_after first p) (c.spread-hashes.ensures ∙ (λ t. five (λ _. e t))) in
    let done = c.absorb-2.ensures (λ i. hash_from (hash_after first p) (drop (i * stride) text) q) begun in
    done ∙ five_same (λ i. hash_from (hash_from (hash_after first p) (drop (i * stride) text) q) (drop (i * 128) tails) b)
    (λ i. final_hash (first ++ message text stride len ends end_len i)) (λ i lt.
    let from : List ℕ = drop (i * stride) text in
    let last : List ℕ = drop (i * 128) tails in
    let end : List ℕ = piece ends end_len end_len i in
    let end_long : length end ≡ end_len = length-take-le end_len (drop (i * end_len) ends)
    (omega (arith, length-drop (i * end_len) ends, c.requires.ends, begins_by i end_len lt)) in
    let within : len ≤ length from = omega (arith, length-drop (i * stride) text, c.requires.text, begins_by i stride lt) in
    let room : b * 64 ≤ length last = omega (arith, c.tail_blocks.ensures.most, length-drop (i * 128) tails, c.tails-tails.type_inv, lt) in
    let place : 64 * q ≡ q * 64 = omega arith in
    let total : c.args.before + len + end_len ≡ p * 64 + len + length end = omega (arith, end_long, c.requires.blocks) in
    whole_hash first from last end p q b len (omega (arith, sized, c.requires.blocks)) within refl room
    (ap (λ (k : ℕ). take (k * 64) last) c.tail_blocks.ensures.value ∙ c.tails-tails.ensures i lt
    ∙ (λ t. drop (place t) (take len from) ++ (end ++ padding (total t)))))
