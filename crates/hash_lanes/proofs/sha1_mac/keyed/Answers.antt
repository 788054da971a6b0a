use Rattle.std.proofs.Common.{◌≡◌, ℕ, List, ◌*◌, length, drop, ap, ◌∙◌, refl}
use Rattle.sha1.specs.Sha1.{compress, hash_after, initial_hash}
use Rattle.hash_lanes.specs.Sha1Lanes.{hash_from}
use Rattle.hash_lanes.proofs.Sha1Parts.{hash_begun}
use Rattle.hash_lanes.proofs.sha1_mac.keyed.Goals as goal

one_block_long : (h p : List ℕ) → length (hash_from h p 1) ≡ 5
unfolding hash_from compress
one_block_long h p = refl

pub returns : goal.returns
returns c =
    let ini = initial_hash in
    let key : List ℕ = c.xor_each-key.result in
    c.first_of_eight.ensures (λ i. hash_from ini (drop (i * 0) key) 1) (c.absorb.ensures (λ _. ini) c.spread-hashes.ensures)
    (one_block_long ini (drop (0 * 0) key))
    ∙ hash_begun (drop (0 * 0) key) 1
    ∙ ap (λ (l : List ℕ). hash_after l 1) c.xor_each-key.ensures
