use Rattle.std.proofs.Common.{◌≡◌, ℕ, ◌+◌, ◌*◌, ◌/◌, ◌%◌, List, [], ◌∷◌, ap, ◌∙◌, refl, arith}
use Rattle.aes_lanes.specs.States.{state_in}
use Rattle.aes_lanes.specs.Transposed.{state_vectors}
use Rattle.aes_lanes.proofs.BlockFacts.{back_byte}
use Rattle.aes_lanes.proofs.blocks.vectors.Goals as goal

pub returns : goal.returns
returns c j hj =
    let same : j % 64 ≡ j = omega arith in
    let vs : List (List ℕ) = c.transpose-t.result.r0.p0 ∷ c.transpose-t.result.r0.p1 ∷ c.transpose-t.result.r0.p2 ∷ c.transpose-t.result.r0.p3
    ∷ c.transpose-t.result.r0.p4 ∷ c.transpose-t.result.r0.p5 ∷ c.transpose-t.result.r0.p6 ∷ c.transpose-t.result.r0.p7
    ∷ c.transpose-t.result.r1.p0 ∷ c.transpose-t.result.r1.p1 ∷ c.transpose-t.result.r1.p2 ∷ c.transpose-t.result.r1.p3
    ∷ c.transpose-t.result.r1.p4 ∷ c.transpose-t.result.r1.p5 ∷ c.transpose-t.result.r1.p6 ∷ c.transpose-t.result.r1.p7
    ∷ c.transpose-t.result.r2.p0 ∷ c.transpose-t.result.r2.p1 ∷ c.transpose-t.result.r2.p2 ∷ c.transpose-t.result.r2.p3
    ∷ c.transpose-t.result.r2.p4 ∷ c.transpose-t.result.r2.p5 ∷ c.transpose-t.result.r2.p6 ∷ c.transpose-t.result.r2.p7
    ∷ c.transpose-t.result.r3.p0 ∷ c.transpose-t.result.r3.p1 ∷ c.transpose-t.result.r3.p2 ∷ c.transpose-t.result.r3.p3
    ∷ c.transpose-t.result.r3.p4 ∷ c.transpose-t.result.r3.p5 ∷ c.transpose-t.result.r3.p6 ∷ c.transpose-t.result.r3.p7 ∷ [] in
    let t0 = c.transpose-t.ensures.bits 0 (omega arith) in
    let t1 = c.transpose-t.ensures.bits 1 (omega arith) in
    let t2 = c.transpose-t.ensures.bits 2 (omega arith) in
    let t3 = c.transpose-t.ensures.bits 3 (omega arith) in
    (λ i. back_byte vs (state_vectors c.args.s 0) 0 j 0 (j / 32 * 32) refl t0 hj (omega arith) (omega arith) i
    ∷ back_byte vs (state_vectors c.args.s 0) 0 j 1 (j / 32 * 32 + 8) refl t0 hj (omega arith) (omega arith) i
    ∷ back_byte vs (state_vectors c.args.s 0) 0 j 2 (j / 32 * 32 + 16) refl t0 hj (omega arith) (omega arith) i
    ∷ back_byte vs (state_vectors c.args.s 0) 0 j 3 (j / 32 * 32 + 24) refl t0 hj (omega arith) (omega arith) i
    ∷ back_byte vs (state_vectors c.args.s 1) 1 j 0 (j / 32 * 32) refl t1 hj (omega arith) (omega arith) i
    ∷ back_byte vs (state_vectors c.args.s 1) 1 j 1 (j / 32 * 32 + 8) refl t1 hj (omega arith) (omega arith) i
    ∷ back_byte vs (state_vectors c.args.s 1) 1 j 2 (j / 32 * 32 + 16) refl t1 hj (omega arith) (omega arith) i
    ∷ back_byte vs (state_vectors c.args.s 1) 1 j 3 (j / 32 * 32 + 24) refl t1 hj (omega arith) (omega arith) i
    ∷ back_byte vs (state_vectors c.args.s 2) 2 j 0 (j / 32 * 32) refl t2 hj (omega arith) (omega arith) i
    ∷ back_byte vs (state_vectors c.args.s 2) 2 j 1 (j / 32 * 32 + 8) refl t2 hj (omega arith) (omega arith) i
    ∷ back_byte vs (state_vectors c.args.s 2) 2 j 2 (j / 32 * 32 + 16) refl t2 hj (omega arith) (omega arith) i
    ∷ back_byte vs (state_vectors c.args.s 2) 2 j 3 (j / 32 * 32 + 24) refl t2 hj (omega arith) (omega arith) i
    ∷ back_byte vs (state_vectors c.args.s 3) 3 j 0 (j / 32 * 32) refl t3 hj (omega arith) (omega arith) i
    ∷ back_byte vs (state_vectors c.args.s 3) 3 j 1 (j / 32 * 32 + 8) refl t3 hj (omega arith) (omega arith) i
    ∷ back_byte vs (state_vectors c.args.s 3) 3 j 2 (j / 32 * 32 + 16) refl t3 hj (omega arith) (omega arith) i
    ∷ back_byte vs (state_vectors c.args.s 3) 3 j 3 (j / 32 * 32 + 24) refl t3 hj (omega arith) (omega arith) i ∷ [])
    ∙ ap (state_in c.args.s) same
