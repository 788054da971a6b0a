use Rattle.std.proofs.Common.{◌≡◌, ℕ, ◌+◌, ◌*◌, ◌<◌, List, [], ◌∷◌, slice_index, take, drop, ap, sym, ◌∙◌, arith, rules}
use Rattle.aes_lanes.proofs.BlockFacts.{block_entries, transposed_byte}
use Rattle.aes_lanes.proofs.blocks.states.Goals as goal

pub returns-clause-blocks : goal.returns-clause-blocks
returns-clause-blocks c j hj =
    let text : List ℕ = c.args.text.now in
    let byte : (k : ℕ) → slice_index text k < 256 = search rules in
    let zero_more : 16 * j + 0 ≡ 16 * j = omega arith in
    let t0 = c.transpose.ensures.bits 0 (omega arith) in
    let l0 = c.load.ensures.bits 0 (omega arith) in
    let t1 = c.transpose.ensures.bits 1 (omega arith) in
    let l1 = c.load.ensures.bits 1 (omega arith) in
    let t2 = c.transpose.ensures.bits 2 (omega arith) in
    let l2 = c.load.ensures.bits 2 (omega arith) in
    let t3 = c.transpose.ensures.bits 3 (omega arith) in
    let l3 = c.load.ensures.bits 3 (omega arith) in
    (λ i. transposed_byte _ text c.transpose.result.r0 0 j 0 l0
    (ap (λ (l : List (ℕ → ℕ)). take 8 (drop 0 l)) t0) hj (omega arith) (byte (16 * j + (4 * 0 + 0))) i
    ∷ transposed_byte _ text c.transpose.result.r1 0 j 1 l0
    (ap (λ (l : List (ℕ → ℕ)). take 8 (drop 8 l)) t0) hj (omega arith) (byte (16 * j + (4 * 0 + 1))) i
    ∷ transposed_byte _ text c.transpose.result.r2 0 j 2 l0
    (ap (λ (l : List (ℕ → ℕ)). take 8 (drop 16 l)) t0) hj (omega arith) (byte (16 * j + (4 * 0 + 2))) i
    ∷ transposed_byte _ text c.transpose.result.r3 0 j 3 l0
    (ap (λ (l : List (ℕ → ℕ)). take 8 (drop 24 l)) t0) hj (omega arith) (byte (16 * j + (4 * 0 + 3))) i
    ∷ transposed_byte _ text c.transpose.result.r0 1 j 0 l1
    (ap (λ (l : List (ℕ → ℕ)). take 8 (drop 0 l)) t1) hj (omega arith) (byte (16 * j + (4 * 1 + 0))) i
    ∷ transposed_byte _ text c.transpose.result.r1 1 j 1 l1
    (ap (λ (l : List (ℕ → ℕ)). take 8 (drop 8 l)) t1) hj (omega arith) (byte (16 * j + (4 * 1 + 1))) i
    ∷ transposed_byte _ text c.transpose.result.r2 1 j 2 l1
    (ap (λ (l : List (ℕ → ℕ)). take 8 (drop 16 l)) t1) hj (omega arith) (byte (16 * j + (4 * 1 + 2))) i
    ∷ transposed_byte _ text c.transpose.result.r3 1 j 3 l1
    (ap (λ (l : List (ℕ → ℕ)). take 8 (drop 24 l)) t1) hj (omega arith) (byte (16 * j + (4 * 1 + 3))) i
    ∷ transposed_byte _ text c.transpose.result.r0 2 j 0 l2
    (ap (λ (l : List (ℕ → ℕ)). take 8 (drop 0 l)) t2) hj (omega arith) (byte (16 * j + (4 * 2 + 0))) i
    ∷ transposed_byte _ text c.transpose.result.r1 2 j 1 l2
    (ap (λ (l : List (ℕ → ℕ)). take 8 (drop 8 l)) t2) hj (omega arith) (byte (16 * j + (4 * 2 + 1))) i
    ∷ transposed_byte _ text c.transpose.result.r2 2 j 2 l2
    (ap (λ (l : List (ℕ → ℕ)). take 8 (drop 16 l)) t2) hj (omega arith) (byte (16 * j + (4 * 2 + 2))) i
    ∷ transposed_byte _ text c.transpose.result.r3 2 j 3 l2
    (ap (λ (l : List (ℕ → ℕ)). take 8 (drop 24 l)) t2) hj (omega arith) (byte (16 * j + (4 * 2 + 3))) i
    ∷ transposed_byte _ text c.transpose.result.r0 3 j 0 l3
    (ap (λ (l : List (ℕ → ℕ)). take 8 (drop 0 l)) t3) hj (omega arith) (byte (16 * j + (4 * 3 + 0))) i
    ∷ transposed_byte _ text c.transpose.result.r1 3 j 1 l3
    (ap (λ (l : List (ℕ → ℕ)). take 8 (drop 8 l)) t3) hj (omega arith) (byte (16 * j + (4 * 3 + 1))) i
    ∷ transposed_byte _ text c.transpose.result.r2 3 j 2 l3
    (ap (λ (l : List (ℕ → ℕ)). take 8 (drop 16 l)) t3) hj (omega arith) (byte (16 * j + (4 * 3 + 2))) i
    ∷ transposed_byte _ text c.transpose.result.r3 3 j 3 l3
    (ap (λ (l : List (ℕ → ℕ)). take 8 (drop 24 l)) t3) hj (omega arith) (byte (16 * j + (4 * 3 + 3))) i ∷ [])
    ∙ sym (block_entries text j (omega arith))
