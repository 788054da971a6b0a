use Rattle.std.proofs.Common.{[], ◌∷◌, ◌∙◌, arith}
use Rattle.aes_block.specs.Aes.{dot, inv_mix_columns}
use Rattle.aes_lanes.specs.Planes.{byte_in}
use Rattle.aes_lanes.proofs.RowFacts.{byte_in-lt}
use Rattle.aes_lanes.proofs.MatrixFacts.{both_row0, both_row1, both_row2, both_row3}
use Rattle.aes_lanes.proofs.mix.inv_mix_columns.Goals as goal

pub returns-clause-blocks : goal.returns-clause-blocks
unfolding inv_mix_columns
returns-clause-blocks c j hj =
    let m0 = c.mix_columns.ensures.bytes 0 j (omega arith) hj in
    let h0 = c.half_mixed.ensures.bytes 0 j (omega arith) hj in
    let m1 = c.mix_columns.ensures.bytes 1 j (omega arith) hj in
    let h1 = c.half_mixed.ensures.bytes 1 j (omega arith) hj in
    let m2 = c.mix_columns.ensures.bytes 2 j (omega arith) hj in
    let h2 = c.half_mixed.ensures.bytes 2 j (omega arith) hj in
    let m3 = c.mix_columns.ensures.bytes 3 j (omega arith) hj in
    let h3 = c.half_mixed.ensures.bytes 3 j (omega arith) hj in
    λ i. (m0.r0 ∙ (λ n. dot 2 3 1 1 (h0.r0 n ∷ h0.r1 n ∷ h0.r2 n ∷ h0.r3 n ∷ []) 0)
    ∙ both_row0 (byte_in c.args.s.r0 0 j) (byte_in c.args.s.r1 0 j) (byte_in c.args.s.r2 0 j) (byte_in c.args.s.r3 0 j)
    (byte_in-lt c.args.s.r0 0 j) (byte_in-lt c.args.s.r1 0 j) (byte_in-lt c.args.s.r2 0 j) (byte_in-lt c.args.s.r3 0 j)) i
    ∷ (m0.r1 ∙ (λ n. dot 1 2 3 1 (h0.r0 n ∷ h0.r1 n ∷ h0.r2 n ∷ h0.r3 n ∷ []) 0)
    ∙ both_row1 (byte_in c.args.s.r0 0 j) (byte_in c.args.s.r1 0 j) (byte_in c.args.s.r2 0 j) (byte_in c.args.s.r3 0 j)
    (byte_in-lt c.args.s.r0 0 j) (byte_in-lt c.args.s.r1 0 j) (byte_in-lt c.args.s.r2 0 j) (byte_in-lt c.args.s.r3 0 j)) i
    ∷ (m0.r2 ∙ (λ n. dot 1 1 2 3 (h0.r0 n ∷ h0.r1 n ∷ h0.r2 n ∷ h0.r3 n ∷ []) 0)
    ∙ both_row2 (byte_in c.args.s.r0 0 j) (byte_in c.args.s.r1 0 j) (byte_in c.args.s.r2 0 j) (byte_in c.args.s.r3 0 j)
    (byte_in-lt c.args.s.r0 0 j) (byte_in-lt c.args.s.r1 0 j) (byte_in-lt c.args.s.r2 0 j) (byte_in-lt c.args.s.r3 0 j)) i
    ∷ (m0.r3 ∙ (λ n. dot 3 1 1 2 (h0.r0 n ∷ h0.r1 n ∷ h0.r2 n ∷ h0.r3 n ∷ []) 0)
    ∙ both_row3 (byte_in c.args.s.r0 0 j) (byte_in c.args.s.r1 0 j) (byte_in c.args.s.r2 0 j) (byte_in c.args.s.r3 0 j)
    (byte_in-lt c.args.s.r0 0 j) (byte_in-lt c.args.s.r1 0 j) (byte_in-lt c.args.s.r2 0 j) (byte_in-lt c.args.s.r3 0 j)) i
    ∷ (m1.r0 ∙ (λ n. dot 2 3 1 1 (h1.r0 n ∷ h1.r1 n ∷ h1.r2 n ∷ h1.r3 n ∷ []) 0)
    ∙ both_row0 (byte_in c.args.s.r0 1 j) (byte_in c.args.s.r1 1 j) (byte_in c.args.s.r2 1 j) (byte_in c.args.s.r3 1 j)
    (byte_in-lt c.args.s.r0 1 j) (byte_in-lt c.args.s.r1 1 j) (byte_in-lt c.args.s.r2 1 j) (byte_in-lt c.args.s.r3 1 j)) i
    ∷ (m1.r1 ∙ (λ n. dot 1 2 3 1 (h1.r0 n ∷ h1.r1 n ∷ h1.r2 n ∷ h1.r3 n ∷ []) 0)
    ∙ both_row1 (byte_in c.args.s.r0 1 j) (byte_in c.args.s.r1 1 j) (byte_in c.args.s.r2 1 j) (byte_in c.args.s.r3 1 j)
    (byte_in-lt c.args.s.r0 1 j) (byte_in-lt c.args.s.r1 1 j) (byte_in-lt c.args.s.r2 1 j) (byte_in-lt c.args.s.r3 1 j)) i
    ∷ (m1.r2 ∙ (λ n. dot 1 1 2 3 (h1.r0 n ∷ h1.r1 n ∷ h1.r2 n ∷ h1.r3 n ∷ []) 0)
    ∙ both_row2 (byte_in c.args.s.r0 1 j) (byte_in c.args.s.r1 1 j) (byte_in c.args.s.r2 1 j) (byte_in c.args.s.r3 1 j)
    (byte_in-lt c.args.s.r0 1 j) (byte_in-lt c.args.s.r1 1 j) (byte_in-lt c.args.s.r2 1 j) (byte_in-lt c.args.s.r3 1 j)) i
    ∷ (m1.r3 ∙ (λ n. dot 3 1 1 2 (h1.r0 n ∷ h1.r1 n ∷ h1.r2 n ∷ h1.r3 n ∷ []) 0)
    ∙ both_row3 (byte_in c.args.s.r0 1 j) (byte_in c.args.s.r1 1 j) (byte_in c.args.s.r2 1 j) (byte_in c.args.s.r3 1 j)
    (byte_in-lt c.args.s.r0 1 j) (byte_in-lt c.args.s.r1 1 j) (byte_in-lt c.args.s.r2 1 j) (byte_in-lt c.args.s.r3 1 j)) i
    ∷ (m2.r0 ∙ (λ n. dot 2 3 1 1 (h2.r0 n ∷ h2.r1 n ∷ h2.r2 n ∷ h2.r3 n ∷ []) 0)
    ∙ both_row0 (byte_in c.args.s.r0 2 j) (byte_in c.args.s.r1 2 j) (byte_in c.args.s.r2 2 j) (byte_in c.args.s.r3 2 j)
    (byte_in-lt c.args.s.r0 2 j) (byte_in-lt c.args.s.r1 2 j) (byte_in-lt c.args.s.r2 2 j) (byte_in-lt c.args.s.r3 2 j)) i
    ∷ (m2.r1 ∙ (λ n. dot 1 2 3 1 (h2.r0 n ∷ h2.r1 n ∷ h2.r2 n ∷ h2.r3 n ∷ []) 0)
    ∙ both_row1 (byte_in c.args.s.r0 2 j) (byte_in c.args.s.r1 2 j) (byte_in c.args.s.r2 2 j) (byte_in c.args.s.r3 2 j)
    (byte_in-lt c.args.s.r0 2 j) (byte_in-lt c.args.s.r1 2 j) (byte_in-lt c.args.s.r2 2 j) (byte_in-lt c.args.s.r3 2 j)) i
    ∷ (m2.r2 ∙ (λ n. dot 1 1 2 3 (h2.r0 n ∷ h2.r1 n ∷ h2.r2 n ∷ h2.r3 n ∷ []) 0)
    ∙ both_row2 (byte_in c.args.s.r0 2 j) (byte_in c.args.s.r1 2 j) (byte_in c.args.s.r2 2 j) (byte_in c.args.s.r3 2 j)
    (byte_in-lt c.args.s.r0 2 j) (byte_in-lt c.args.s.r1 2 j) (byte_in-lt c.args.s.r2 2 j) (byte_in-lt c.args.s.r3 2 j)) i
    ∷ (m2.r3 ∙ (λ n. dot 3 1 1 2 (h2.r0 n ∷ h2.r1 n ∷ h2.r2 n ∷ h2.r3 n ∷ []) 0)
    ∙ both_row3 (byte_in c.args.s.r0 2 j) (byte_in c.args.s.r1 2 j) (byte_in c.args.s.r2 2 j) (byte_in c.args.s.r3 2 j)
    (byte_in-lt c.args.s.r0 2 j) (byte_in-lt c.args.s.r1 2 j) (byte_in-lt c.args.s.r2 2 j) (byte_in-lt c.args.s.r3 2 j)) i
    ∷ (m3.r0 ∙ (λ n. dot 2 3 1 1 (h3.r0 n ∷ h3.r1 n ∷ h3.r2 n ∷ h3.r3 n ∷ []) 0)
    ∙ both_row0 (byte_in c.args.s.r0 3 j) (byte_in c.args.s.r1 3 j) (byte_in c.args.s.r2 3 j) (byte_in c.args.s.r3 3 j)
    (byte_in-lt c.args.s.r0 3 j) (byte_in-lt c.args.s.r1 3 j) (byte_in-lt c.args.s.r2 3 j) (byte_in-lt c.args.s.r3 3 j)) i
    ∷ (m3.r1 ∙ (λ n. dot 1 2 3 1 (h3.r0 n ∷ h3.r1 n ∷ h3.r2 n ∷ h3.r3 n ∷ []) 0)
    ∙ both_row1 (byte_in c.args.s.r0 3 j) (byte_in c.args.s.r1 3 j) (byte_in c.args.s.r2 3 j) (byte_in c.args.s.r3 3 j)
    (byte_in-lt c.args.s.r0 3 j) (byte_in-lt c.args.s.r1 3 j) (byte_in-lt c.args.s.r2 3 j) (byte_in-lt c.args.s.r3 3 j)) i
    ∷ (m3.r2 ∙ (λ n. dot 1 1 2 3 (h3.r0 n ∷ h3.r1 n ∷ h3.r2 n ∷ h3.r3 n ∷ []) 0)
    ∙ both_row2 (byte_in c.args.s.r0 3 j) (byte_in c.args.s.r1 3 j) (byte_in c.args.s.r2 3 j) (byte_in c.args.s.r3 3 j)
    (byte_in-lt c.args.s.r0 3 j) (byte_in-lt c.args.s.r1 3 j) (byte_in-lt c.args.s.r2 3 j) (byte_in-lt c.args.s.r3 3 j)) i
    ∷ (m3.r3 ∙ (λ n. dot 3 1 1 2 (h3.r0 n ∷ h3.r1 n ∷ h3.r2 n ∷ h3.r3 n ∷ []) 0)
    ∙ both_row3 (byte_in c.args.s.r0 3 j) (byte_in c.args.s.r1 3 j) (byte_in c.args.s.r2 3 j) (byte_in c.args.s.r3 3 j)
    (byte_in-lt c.args.s.r0 3 j) (byte_in-lt c.args.s.r1 3 j) (byte_in-lt c.args.s.r2 3 j) (byte_in-lt c.args.s.r3 3 j)) i ∷ []
