use Rattle.std.proofs.Common.{◌≡◌, ℕ, List, [], ◌∷◌, ◌++◌, slice_index, ap, sym, ◌∙◌, refl, arith}
use Rattle.std.specs.Prelude.{bit_xor}
use Rattle.aes_block.specs.Aes.{word_of, xor_bytes}
use Rattle.aes_lanes.specs.Planes.{byte_in}
use Rattle.aes_lanes.specs.States.{state_in}
use Rattle.std.proofs.lemmas.List.FromFn.{fill_by_all}
use Rattle.aes_lanes.proofs.KeyFacts.{lowest_byte}
use Rattle.aes_lanes.proofs.keys.add_key.Goals as goal

pub returns-clause-blocks : goal.returns-clause-blocks
returns-clause-blocks c j hj =
    let k : List ℕ = c.args.k.now in
    let w0 = c.key_word.ensures in
    let w1 = c.key_word-2.ensures in
    let w2 = c.key_word-3.ensures in
    let w3 = c.key_word-4.ensures in
    let whole : k ≡ word_of k 0 ++ word_of k 1 ++ word_of k 2 ++ word_of k 3 = fill_by_all (slice_index k) k 16 0 c.told-k (λ n lt. refl) in
    (λ i. (c.xor.ensures.bytes 0 j (omega arith) hj ∙ ap (bit_xor (byte_in c.args.s.r0 0 j)) (c.key_row.ensures.bytes 0 j (omega arith) hj
    ∙ lowest_byte c.key_word.result ∙ ap (λ (l : List ℕ). slice_index l 0) w0)) i
    ∷ (c.xor-2.ensures.bytes 0 j (omega arith) hj ∙ ap (bit_xor (byte_in c.args.s.r1 0 j)) (c.key_row-2.ensures.bytes 0 j (omega arith) hj
    ∙ ap (λ (l : List ℕ). slice_index l 1) w0)) i
    ∷ (c.xor-3.ensures.bytes 0 j (omega arith) hj ∙ ap (bit_xor (byte_in c.args.s.r2 0 j)) (c.key_row-3.ensures.bytes 0 j (omega arith) hj
    ∙ ap (λ (l : List ℕ). slice_index l 2) w0)) i
    ∷ (c.xor-4.ensures.bytes 0 j (omega arith) hj ∙ ap (bit_xor (byte_in c.args.s.r3 0 j)) (c.key_row-4.ensures.bytes 0 j (omega arith) hj
    ∙ ap (λ (l : List ℕ). slice_index l 3) w0)) i
    ∷ (c.xor.ensures.bytes 1 j (omega arith) hj ∙ ap (bit_xor (byte_in c.args.s.r0 1 j)) (c.key_row.ensures.bytes 1 j (omega arith) hj
    ∙ lowest_byte c.key_word-2.result ∙ ap (λ (l : List ℕ). slice_index l 0) w1)) i
    ∷ (c.xor-2.ensures.bytes 1 j (omega arith) hj ∙ ap (bit_xor (byte_in c.args.s.r1 1 j)) (c.key_row-2.ensures.bytes 1 j (omega arith) hj
    ∙ ap (λ (l : List ℕ). slice_index l 1) w1)) i
    ∷ (c.xor-3.ensures.bytes 1 j (omega arith) hj ∙ ap (bit_xor (byte_in c.args.s.r2 1 j)) (c.key_row-3.ensures.bytes 1 j (omega arith) hj
    ∙ ap (λ (l : List ℕ). slice_index l 2) w1)) i
    ∷ (c.xor-4.ensures.bytes 1 j (omega arith) hj ∙ ap (bit_xor (byte_in c.args.s.r3 1 j)) (c.key_row-4.ensures.bytes 1 j (omega arith) hj
    ∙ ap (λ (l : List ℕ). slice_index l 3) w1)) i
    ∷ (c.xor.ensures.bytes 2 j (omega arith) hj ∙ ap (bit_xor (byte_in c.args.s.r0 2 j)) (c.key_row.ensures.bytes 2 j (omega arith) hj
    ∙ lowest_byte c.key_word-3.result ∙ ap (λ (l : List ℕ). slice_index l 0) w2)) i
    ∷ (c.xor-2.ensures.bytes 2 j (omega arith) hj ∙ ap (bit_xor (byte_in c.args.s.r1 2 j)) (c.key_row-2.ensures.bytes 2 j (omega arith) hj
    ∙ ap (λ (l : List ℕ). slice_index l 1) w2)) i
    ∷ (c.xor-3.ensures.bytes 2 j (omega arith) hj ∙ ap (bit_xor (byte_in c.args.s.r2 2 j)) (c.key_row-3.ensures.bytes 2 j (omega arith) hj
    ∙ ap (λ (l : List ℕ). slice_index l 2) w2)) i
    ∷ (c.xor-4.ensures.bytes 2 j (omega arith) hj ∙ ap (bit_xor (byte_in c.args.s.r3 2 j)) (c.key_row-4.ensures.bytes 2 j (omega arith) hj
    ∙ ap (λ (l : List ℕ). slice_index l 3) w2)) i
    ∷ (c.xor.ensures.bytes 3 j (omega arith) hj ∙ ap (bit_xor (byte_in c.args.s.r0 3 j)) (c.key_row.ensures.bytes 3 j (omega arith) hj
    ∙ lowest_byte c.key_word-4.result ∙ ap (λ (l : List ℕ). slice_index l 0) w3)) i
    ∷ (c.xor-2.ensures.bytes 3 j (omega arith) hj ∙ ap (bit_xor (byte_in c.args.s.r1 3 j)) (c.key_row-2.ensures.bytes 3 j (omega arith) hj
    ∙ ap (λ (l : List ℕ). slice_index l 1) w3)) i
    ∷ (c.xor-3.ensures.bytes 3 j (omega arith) hj ∙ ap (bit_xor (byte_in c.args.s.r2 3 j)) (c.key_row-3.ensures.bytes 3 j (omega arith) hj
    ∙ ap (λ (l : List ℕ). slice_index l 2) w3)) i
    ∷ (c.xor-4.ensures.bytes 3 j (omega arith) hj ∙ ap (bit_xor (byte_in c.args.s.r3 3 j)) (c.key_row-4.ensures.bytes 3 j (omega arith) hj
    ∙ ap (λ (l : List ℕ). slice_index l 3) w3)) i ∷ [])
    ∙ ap (xor_bytes (state_in c.args.s j)) (sym whole)
