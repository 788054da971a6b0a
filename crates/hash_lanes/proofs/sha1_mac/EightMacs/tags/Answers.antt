use Rattle.std.proofs.Common.{◌≡◌, ℕ, List, [], ◌++◌, ap, sym, ◌∙◌, append-nil, length}
use Rattle.std.proofs.lemmas.List.{length-map}
use Rattle.std.specs.Prelude.{bit_xor}
use Rattle.sha1.specs.Sha1.{digest_bytes, hash_after, sha1}
use Rattle.hmac_core.specs.Hmac.{hmac_of_block, xor_each}
use Rattle.hash_lanes.specs.Messages.{message, piece}
use Rattle.hash_lanes.specs.Sha1Lanes.{final_hash}
use Rattle.hash_lanes.proofs.sha1_mac.EightMacs.tags.Goals as goal

pub returns : goal.returns
unfolding sha1 hmac_of_block
returns c = λ i lt.
    let key : List ℕ = c.args.self.now in
    let said : ℕ → List ℕ = message c.args.text.now c.args.stride c.args.len c.args.ends.now c.args.end_len in
    let inner : List ℕ = c.digests-inner.result in
    let sized : length key ≡ 64 = sym (ap length c.self.view_is) ∙ c.self.invariant.sized in
    let inner_sized : length (xor_each 0x36 key) ≡ 64 = length-map key (λ (x : ℕ). bit_xor x 0x36) ∙ sized in
    let outer_sized : length (xor_each 0x5c key) ≡ 64 = length-map key (λ (x : ℕ). bit_xor x 0x5c) ∙ sized in
    let inner_key = c.self.invariant.inner ∙ ap (λ (b : List ℕ). hash_after (xor_each 0x36 b) 1) c.self.view_is in
    let outer_key = c.self.invariant.outer ∙ ap (λ (b : List ℕ). hash_after (xor_each 0x5c b) 1) c.self.view_is in
    let inner_hashes = c.finished.ensures (xor_each 0x36 key) inner_sized inner_key in
    let inner_is : piece inner 20 20 i ≡ digest_bytes (final_hash (xor_each 0x36 key ++ said i)) 5 =
    c.digests-inner.ensures (λ k. final_hash (xor_each 0x36 key ++ said k)) inner_hashes i lt in
    let outer_hashes = c.finished-2.ensures (xor_each 0x5c key) outer_sized outer_key in
    c.digests.ensures (λ k. final_hash (xor_each 0x5c key ++ message inner 20 20 [] 0 k)) outer_hashes i lt
    ∙ ap (λ (m : List ℕ). digest_bytes (final_hash (xor_each 0x5c key ++ m)) 5) (append-nil (piece inner 20 20 i) ∙ inner_is)
