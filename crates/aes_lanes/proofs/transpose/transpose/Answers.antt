use Rattle.std.proofs.Common.{◌≡◌, ℕ, ◌%◌, List, [], ◌∷◌, ◌∙◌, refl, arith}
use Rattle.std.specs.Prelude.{map}
use Rattle.aes_lanes.specs.Transposed.{bits, four_transposed, row_transposed, state_vectors, transposed, vector_at}
use Rattle.aes_lanes.proofs.SwapFacts.{same64}
use Rattle.aes_lanes.proofs.transpose.transpose.Goals as goal

pub returns-clause-bits : goal.returns-clause-bits
returns-clause-bits c j hj =
    let v0 : List (ℕ → ℕ) = bits c.args.s.r0.p0 j ∷ bits c.args.s.r1.p0 j ∷ bits c.args.s.r2.p0 j ∷ bits c.args.s.r3.p0 j ∷ [] in
    let v1 : List (ℕ → ℕ) = bits c.args.s.r0.p1 j ∷ bits c.args.s.r1.p1 j ∷ bits c.args.s.r2.p1 j ∷ bits c.args.s.r3.p1 j ∷ [] in
    let v2 : List (ℕ → ℕ) = bits c.args.s.r0.p2 j ∷ bits c.args.s.r1.p2 j ∷ bits c.args.s.r2.p2 j ∷ bits c.args.s.r3.p2 j ∷ [] in
    let v3 : List (ℕ → ℕ) = bits c.args.s.r0.p3 j ∷ bits c.args.s.r1.p3 j ∷ bits c.args.s.r2.p3 j ∷ bits c.args.s.r3.p3 j ∷ [] in
    let v4 : List (ℕ → ℕ) = bits c.args.s.r0.p4 j ∷ bits c.args.s.r1.p4 j ∷ bits c.args.s.r2.p4 j ∷ bits c.args.s.r3.p4 j ∷ [] in
    let v5 : List (ℕ → ℕ) = bits c.args.s.r0.p5 j ∷ bits c.args.s.r1.p5 j ∷ bits c.args.s.r2.p5 j ∷ bits c.args.s.r3.p5 j ∷ [] in
    let v6 : List (ℕ → ℕ) = bits c.args.s.r0.p6 j ∷ bits c.args.s.r1.p6 j ∷ bits c.args.s.r2.p6 j ∷ bits c.args.s.r3.p6 j ∷ [] in
    let v7 : List (ℕ → ℕ) = bits c.args.s.r0.p7 j ∷ bits c.args.s.r1.p7 j ∷ bits c.args.s.r2.p7 j ∷ bits c.args.s.r3.p7 j ∷ [] in
    let at : ℕ → List (ℕ → ℕ) = λ r. map (λ v n. four_transposed v r (n % 64)) (v0 ∷ v1 ∷ v2 ∷ v3 ∷ v4 ∷ v5 ∷ v6 ∷ v7 ∷ []) in
    let f0 = c.transpose_four-f0.ensures.bits j hj in
    let f1 = c.transpose_four-f1.ensures.bits j hj in
    let f2 = c.transpose_four-f2.ensures.bits j hj in
    let f3 = c.transpose_four-f3.ensures.bits j hj in
    let f4 = c.transpose_four-f4.ensures.bits j hj in
    let f5 = c.transpose_four-f5.ensures.bits j hj in
    let f6 = c.transpose_four-f6.ensures.bits j hj in
    let f7 = c.transpose_four-f7.ensures.bits j hj in
    let is0 : bits c.transpose_four-f0.result.a j ∷ bits c.transpose_four-f1.result.a j ∷ bits c.transpose_four-f2.result.a j
    ∷ bits c.transpose_four-f3.result.a j ∷ bits c.transpose_four-f4.result.a j ∷ bits c.transpose_four-f5.result.a j
    ∷ bits c.transpose_four-f6.result.a j ∷ bits c.transpose_four-f7.result.a j ∷ [] ≡ at 0 =
    λ i. map (λ (v : List (ℕ → ℕ)). vector_at v 0) (f0 i ∷ f1 i ∷ f2 i ∷ f3 i ∷ f4 i ∷ f5 i ∷ f6 i ∷ f7 i ∷ []) in
    let row0 = c.transpose_row.ensures.bits j hj in
    let is1 : bits c.transpose_four-f0.result.b j ∷ bits c.transpose_four-f1.result.b j ∷ bits c.transpose_four-f2.result.b j
    ∷ bits c.transpose_four-f3.result.b j ∷ bits c.transpose_four-f4.result.b j ∷ bits c.transpose_four-f5.result.b j
    ∷ bits c.transpose_four-f6.result.b j ∷ bits c.transpose_four-f7.result.b j ∷ [] ≡ at 1 =
    λ i. map (λ (v : List (ℕ → ℕ)). vector_at v 1) (f0 i ∷ f1 i ∷ f2 i ∷ f3 i ∷ f4 i ∷ f5 i ∷ f6 i ∷ f7 i ∷ []) in
    let row1 = c.transpose_row-2.ensures.bits j hj in
    let is2 : bits c.transpose_four-f0.result.c j ∷ bits c.transpose_four-f1.result.c j ∷ bits c.transpose_four-f2.result.c j
    ∷ bits c.transpose_four-f3.result.c j ∷ bits c.transpose_four-f4.result.c j ∷ bits c.transpose_four-f5.result.c j
    ∷ bits c.transpose_four-f6.result.c j ∷ bits c.transpose_four-f7.result.c j ∷ [] ≡ at 2 =
    λ i. map (λ (v : List (ℕ → ℕ)). vector_at v 2) (f0 i ∷ f1 i ∷ f2 i ∷ f3 i ∷ f4 i ∷ f5 i ∷ f6 i ∷ f7 i ∷ []) in
    let row2 = c.transpose_row-3.ensures.bits j hj in
    let is3 : bits c.transpose_four-f0.result.d j ∷ bits c.transpose_four-f1.result.d j ∷ bits c.transpose_four-f2.result.d j
    ∷ bits c.transpose_four-f3.result.d j ∷ bits c.transpose_four-f4.result.d j ∷ bits c.transpose_four-f5.result.d j
    ∷ bits c.transpose_four-f6.result.d j ∷ bits c.transpose_four-f7.result.d j ∷ [] ≡ at 3 =
    λ i. map (λ (v : List (ℕ → ℕ)). vector_at v 3) (f0 i ∷ f1 i ∷ f2 i ∷ f3 i ∷ f4 i ∷ f5 i ∷ f6 i ∷ f7 i ∷ []) in
    let row3 = c.transpose_row-4.ensures.bits j hj in
    λ i. (λ k. ((λ t. vector_at (row0 t) 0 k) ∙ (λ t. row_transposed (is0 t) 0 (k % 64))
    ∙ same64 (row_transposed (at 0) 0) (transposed (state_vectors c.args.s j) 0) refl (k % 64) (omega arith)) i)
    ∷ (λ k. ((λ t. vector_at (row0 t) 1 k) ∙ (λ t. row_transposed (is0 t) 1 (k % 64))
    ∙ same64 (row_transposed (at 0) 1) (transposed (state_vectors c.args.s j) 1) refl (k % 64) (omega arith)) i)
    ∷ (λ k. ((λ t. vector_at (row0 t) 2 k) ∙ (λ t. row_transposed (is0 t) 2 (k % 64))
    ∙ same64 (row_transposed (at 0) 2) (transposed (state_vectors c.args.s j) 2) refl (k % 64) (omega arith)) i)
    ∷ (λ k. ((λ t. vector_at (row0 t) 3 k) ∙ (λ t. row_transposed (is0 t) 3 (k % 64))
    ∙ same64 (row_transposed (at 0) 3) (transposed (state_vectors c.args.s j) 3) refl (k % 64) (omega arith)) i)
    ∷ (λ k. ((λ t. vector_at (row0 t) 4 k) ∙ (λ t. row_transposed (is0 t) 4 (k % 64))
    ∙ same64 (row_transposed (at 0) 4) (transposed (state_vectors c.args.s j) 4) refl (k % 64) (omega arith)) i)
    ∷ (λ k. ((λ t. vector_at (row0 t) 5 k) ∙ (λ t. row_transposed (is0 t) 5 (k % 64))
    ∙ same64 (row_transposed (at 0) 5) (transposed (state_vectors c.args.s j) 5) refl (k % 64) (omega arith)) i)
    ∷ (λ k. ((λ t. vector_at (row0 t) 6 k) ∙ (λ t. row_transposed (is0 t) 6 (k % 64))
    ∙ same64 (row_transposed (at 0) 6) (transposed (state_vectors c.args.s j) 6) refl (k % 64) (omega arith)) i)
    ∷ (λ k. ((λ t. vector_at (row0 t) 7 k) ∙ (λ t. row_transposed (is0 t) 7 (k % 64))
    ∙ same64 (row_transposed (at 0) 7) (transposed (state_vectors c.args.s j) 7) refl (k % 64) (omega arith)) i)
    ∷ (λ k. ((λ t. vector_at (row1 t) 0 k) ∙ (λ t. row_transposed (is1 t) 0 (k % 64))
    ∙ same64 (row_transposed (at 1) 0) (transposed (state_vectors c.args.s j) 8) refl (k % 64) (omega arith)) i)
    ∷ (λ k. ((λ t. vector_at (row1 t) 1 k) ∙ (λ t. row_transposed (is1 t) 1 (k % 64))
    ∙ same64 (row_transposed (at 1) 1) (transposed (state_vectors c.args.s j) 9) refl (k % 64) (omega arith)) i)
    ∷ (λ k. ((λ t. vector_at (row1 t) 2 k) ∙ (λ t. row_transposed (is1 t) 2 (k % 64))
    ∙ same64 (row_transposed (at 1) 2) (transposed (state_vectors c.args.s j) 10) refl (k % 64) (omega arith)) i)
    ∷ (λ k. ((λ t. vector_at (row1 t) 3 k) ∙ (λ t. row_transposed (is1 t) 3 (k % 64))
    ∙ same64 (row_transposed (at 1) 3) (transposed (state_vectors c.args.s j) 11) refl (k % 64) (omega arith)) i)
    ∷ (λ k. ((λ t. vector_at (row1 t) 4 k) ∙ (λ t. row_transposed (is1 t) 4 (k % 64))
    ∙ same64 (row_transposed (at 1) 4) (transposed (state_vectors c.args.s j) 12) refl (k % 64) (omega arith)) i)
    ∷ (λ k. ((λ t. vector_at (row1 t) 5 k) ∙ (λ t. row_transposed (is1 t) 5 (k % 64))
    ∙ same64 (row_transposed (at 1) 5) (transposed (state_vectors c.args.s j) 13) refl (k % 64) (omega arith)) i)
    ∷ (λ k. ((λ t. vector_at (row1 t) 6 k) ∙ (λ t. row_transposed (is1 t) 6 (k % 64))
    ∙ same64 (row_transposed (at 1) 6) (transposed (state_vectors c.args.s j) 14) refl (k % 64) (omega arith)) i)
    ∷ (λ k. ((λ t. vector_at (row1 t) 7 k) ∙ (λ t. row_transposed (is1 t) 7 (k % 64))
    ∙ same64 (row_transposed (at 1) 7) (transposed (state_vectors c.args.s j) 15) refl (k % 64) (omega arith)) i)
    ∷ (λ k. ((λ t. vector_at (row2 t) 0 k) ∙ (λ t. row_transposed (is2 t) 0 (k % 64))
    ∙ same64 (row_transposed (at 2) 0) (transposed (state_vectors c.args.s j) 16) refl (k % 64) (omega arith)) i)
    ∷ (λ k. ((λ t. vector_at (row2 t) 1 k) ∙ (λ t. row_transposed (is2 t) 1 (k % 64))
    ∙ same64 (row_transposed (at 2) 1) (transposed (state_vectors c.args.s j) 17) refl (k % 64) (omega arith)) i)
    ∷ (λ k. ((λ t. vector_at (row2 t) 2 k) ∙ (λ t. row_transposed (is2 t) 2 (k % 64))
    ∙ same64 (row_transposed (at 2) 2) (transposed (state_vectors c.args.s j) 18) refl (k % 64) (omega arith)) i)
    ∷ (λ k. ((λ t. vector_at (row2 t) 3 k) ∙ (λ t. row_transposed (is2 t) 3 (k % 64))
    ∙ same64 (row_transposed (at 2) 3) (transposed (state_vectors c.args.s j) 19) refl (k % 64) (omega arith)) i)
    ∷ (λ k. ((λ t. vector_at (row2 t) 4 k) ∙ (λ t. row_transposed (is2 t) 4 (k % 64))
    ∙ same64 (row_transposed (at 2) 4) (transposed (state_vectors c.args.s j) 20) refl (k % 64) (omega arith)) i)
    ∷ (λ k. ((λ t. vector_at (row2 t) 5 k) ∙ (λ t. row_transposed (is2 t) 5 (k % 64))
    ∙ same64 (row_transposed (at 2) 5) (transposed (state_vectors c.args.s j) 21) refl (k % 64) (omega arith)) i)
    ∷ (λ k. ((λ t. vector_at (row2 t) 6 k) ∙ (λ t. row_transposed (is2 t) 6 (k % 64))
    ∙ same64 (row_transposed (at 2) 6) (transposed (state_vectors c.args.s j) 22) refl (k % 64) (omega arith)) i)
    ∷ (λ k. ((λ t. vector_at (row2 t) 7 k) ∙ (λ t. row_transposed (is2 t) 7 (k % 64))
    ∙ same64 (row_transposed (at 2) 7) (transposed (state_vectors c.args.s j) 23) refl (k % 64) (omega arith)) i)
    ∷ (λ k. ((λ t. vector_at (row3 t) 0 k) ∙ (λ t. row_transposed (is3 t) 0 (k % 64))
    ∙ same64 (row_transposed (at 3) 0) (transposed (state_vectors c.args.s j) 24) refl (k % 64) (omega arith)) i)
    ∷ (λ k. ((λ t. vector_at (row3 t) 1 k) ∙ (λ t. row_transposed (is3 t) 1 (k % 64))
    ∙ same64 (row_transposed (at 3) 1) (transposed (state_vectors c.args.s j) 25) refl (k % 64) (omega arith)) i)
    ∷ (λ k. ((λ t. vector_at (row3 t) 2 k) ∙ (λ t. row_transposed (is3 t) 2 (k % 64))
    ∙ same64 (row_transposed (at 3) 2) (transposed (state_vectors c.args.s j) 26) refl (k % 64) (omega arith)) i)
    ∷ (λ k. ((λ t. vector_at (row3 t) 3 k) ∙ (λ t. row_transposed (is3 t) 3 (k % 64))
    ∙ same64 (row_transposed (at 3) 3) (transposed (state_vectors c.args.s j) 27) refl (k % 64) (omega arith)) i)
    ∷ (λ k. ((λ t. vector_at (row3 t) 4 k) ∙ (λ t. row_transposed (is3 t) 4 (k % 64))
    ∙ same64 (row_transposed (at 3) 4) (transposed (state_vectors c.args.s j) 28) refl (k % 64) (omega arith)) i)
    ∷ (λ k. ((λ t. vector_at (row3 t) 5 k) ∙ (λ t. row_transposed (is3 t) 5 (k % 64))
    ∙ same64 (row_transposed (at 3) 5) (transposed (state_vectors c.args.s j) 29) refl (k % 64) (omega arith)) i)
    ∷ (λ k. ((λ t. vector_at (row3 t) 6 k) ∙ (λ t. row_transposed (is3 t) 6 (k % 64))
    ∙ same64 (row_transposed (at 3) 6) (transposed (state_vectors c.args.s j) 30) refl (k % 64) (omega arith)) i)
    ∷ (λ k. ((λ t. vector_at (row3 t) 7 k) ∙ (λ t. row_transposed (is3 t) 7 (k % 64))
    ∙ same64 (row_transposed (at 3) 7) (transposed (state_vectors c.args.s j) 31) refl (k % 64) (omega arith)) i) ∷ []
