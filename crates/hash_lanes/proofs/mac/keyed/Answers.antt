use Rattle.std.proofs.Common.{◌≡◌, ℕ, List, ◌*◌, length, drop, ap, ◌∙◌, refl}
use Rattle.sha2.specs.Sha512.{compress, hash_after, initial_hash_512}
use Rattle.hash_lanes.proofs.mac.keyed.Goals as goal

one_block_long : (h p : List ℕ) → length (hash_after h p 1) ≡ 8
unfolding hash_after compress
one_block_long h p = refl

pub returns : goal.returns
returns c =
    let ini = initial_hash_512 in
    let key : List ℕ = c.xor_each-key.result in
    c.first_of_four.ensures (λ i. hash_after ini (drop (i * 0) key) 1) (c.absorb.ensures (λ _. ini) c.spread-hashes.ensures)
    (one_block_long ini (drop (0 * 0) key))
    ∙ ap (λ (l : List ℕ). hash_after ini l 1) c.xor_each-key.ensures
