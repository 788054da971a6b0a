use Rattle.std.proofs.Common.{◌≡◌, ℕ, List, [], ◌++◌, ap, sym, ◌∙◌, append-nil, length}
use Rattle.std.proofs.lemmas.List.{length-map}
use Rattle.std.specs.Prelude.{bit_xor}
use Rattle.sha2.specs.Sha512.{digest_bytes, final_hash, hash_after, initial_hash_512, sha512}
use Rattle.hmac_core.specs.Hmac.{hmac_of_block, xor_each}
use Rattle.hash_lanes.specs.Messages.{message, piece}
use Rattle.hash_lanes.proofs.mac.FourMacs.tags.Goals as goal

pub returns : goal.returns
unfolding sha512 hmac_of_block
returns c = λ i lt.
    let ini = initial_hash_512 in
    let key : List ℕ = c.args.self.now in
    let said : ℕ → List ℕ = message c.args.text.now c.args.stride c.args.len c.args.ends.now c.args.end_len in
    let inner : List ℕ = c.digests-inner.result in
    let sized : length key ≡ 128 = sym (ap length c.self.view_is) ∙ c.self.invariant.sized in
    let inner_sized : length (xor_each 0x36 key) ≡ 128 = length-map key (λ (x : ℕ). bit_xor x 0x36) ∙ sized in
    let outer_sized : length (xor_each 0x5c key) ≡ 128 = length-map key (λ (x : ℕ). bit_xor x 0x5c) ∙ sized in
    let inner_key = c.self.invariant.inner ∙ ap (λ (b : List ℕ). hash_after ini (xor_each 0x36 b) 1) c.self.view_is in
    let outer_key = c.self.invariant.outer ∙ ap (λ (b : List ℕ). hash_after ini (xor_each 0x5c b) 1) c.self.view_is in
    let inner_hashes = c.finished.ensures (xor_each 0x36 key) inner_sized inner_key in
    let inner_is : piece inner 64 64 i ≡ digest_bytes (final_hash ini (xor_each 0x36 key ++ said i)) 8 =
    c.digests-inner.ensures (λ k. final_hash ini (xor_each 0x36 key ++ said k)) inner_hashes i lt in
    let outer_hashes = c.finished-2.ensures (xor_each 0x5c key) outer_sized outer_key in
    c.digests.ensures (λ k. final_hash ini (xor_each 0x5c key ++ message inner 64 64 [] 0 k)) outer_hashes i lt
    ∙ ap (λ (m : List ℕ). digest_bytes (final_hash ini (xor_each 0x5c key ++ m)) 8) (append-nil (piece inner 64 64 i) ∙ inner_is)
