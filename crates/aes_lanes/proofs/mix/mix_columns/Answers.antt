use Rattle.std.proofs.Common.{ℕ, [], ◌∷◌, ap, ◌∙◌, arith}
use Rattle.std.specs.Prelude.{bit_xor}
use Rattle.aes_block.specs.Field.{gf_mul}
use Rattle.aes_block.specs.Aes.{mix_columns}
use Rattle.aes_lanes.specs.Planes.{byte_in}
use Rattle.aes_lanes.proofs.RowFacts.{byte_in-lt}
use Rattle.aes_lanes.proofs.MatrixFacts.{mix_row0, mix_row1, mix_row2, mix_row3}
use Rattle.aes_lanes.proofs.mix.mix_columns.Goals as goal

pub returns-clause-bytes : goal.returns-clause-bytes
returns-clause-bytes c k j hk hj = record {
  r0 = c.xor-2.ensures.bytes k j hk hj
      ∙ (λ i. bit_xor ((c.xor.ensures.bytes k j hk hj ∙ ap (λ (n : ℕ). bit_xor n (byte_in c.args.s.r1 k j)) (c.double.ensures.bytes k j hk hj
      ∙ ap (gf_mul 2) (c.xor-s01.ensures.bytes k j hk hj))) i) (c.xor-s23.ensures.bytes k j hk hj i))
      ∙ mix_row0 (byte_in c.args.s.r0 k j) (byte_in c.args.s.r1 k j) (byte_in c.args.s.r2 k j) (byte_in c.args.s.r3 k j) (byte_in-lt c.args.s.r0 k j)
      (byte_in-lt c.args.s.r1 k j) (byte_in-lt c.args.s.r2 k j) (byte_in-lt c.args.s.r3 k j);
  r1 = c.xor-4.ensures.bytes k j hk hj
      ∙ (λ i. bit_xor ((c.xor-3.ensures.bytes k j hk hj ∙ ap (λ (n : ℕ). bit_xor n (byte_in c.args.s.r2 k j)) (c.double-2.ensures.bytes k j hk hj
      ∙ ap (gf_mul 2) (c.xor-s12.ensures.bytes k j hk hj))) i) (c.xor-s30.ensures.bytes k j hk hj i))
      ∙ mix_row1 (byte_in c.args.s.r0 k j) (byte_in c.args.s.r1 k j) (byte_in c.args.s.r2 k j) (byte_in c.args.s.r3 k j) (byte_in-lt c.args.s.r0 k j)
      (byte_in-lt c.args.s.r1 k j) (byte_in-lt c.args.s.r2 k j) (byte_in-lt c.args.s.r3 k j);
  r2 = c.xor-6.ensures.bytes k j hk hj
      ∙ (λ i. bit_xor ((c.xor-5.ensures.bytes k j hk hj ∙ ap (λ (n : ℕ). bit_xor n (byte_in c.args.s.r3 k j)) (c.double-3.ensures.bytes k j hk hj
      ∙ ap (gf_mul 2) (c.xor-s23.ensures.bytes k j hk hj))) i) (c.xor-s01.ensures.bytes k j hk hj i))
      ∙ mix_row2 (byte_in c.args.s.r0 k j) (byte_in c.args.s.r1 k j) (byte_in c.args.s.r2 k j) (byte_in c.args.s.r3 k j) (byte_in-lt c.args.s.r0 k j)
      (byte_in-lt c.args.s.r1 k j) (byte_in-lt c.args.s.r2 k j) (byte_in-lt c.args.s.r3 k j);
  r3 = c.xor-8.ensures.bytes k j hk hj
      ∙ (λ i. bit_xor ((c.xor-7.ensures.bytes k j hk hj ∙ ap (λ (n : ℕ). bit_xor n (byte_in c.args.s.r0 k j)) (c.double-4.ensures.bytes k j hk hj
      ∙ ap (gf_mul 2) (c.xor-s30.ensures.bytes k j hk hj))) i) (c.xor-s12.ensures.bytes k j hk hj i))
      ∙ mix_row3 (byte_in c.args.s.r0 k j) (byte_in c.args.s.r1 k j) (byte_in c.args.s.r2 k j) (byte_in c.args.s.r3 k j) (byte_in-lt c.args.s.r0 k j)
      (byte_in-lt c.args.s.r1 k j) (byte_in-lt c.args.s.r2 k j) (byte_in-lt c.args.s.r3 k j);
}

pub returns-clause-blocks : goal.returns-clause-blocks
unfolding mix_columns
returns-clause-blocks c j hj =
    let m0 = returns-clause-bytes c 0 j (omega arith) hj in
    let m1 = returns-clause-bytes c 1 j (omega arith) hj in
    let m2 = returns-clause-bytes c 2 j (omega arith) hj in
    let m3 = returns-clause-bytes c 3 j (omega arith) hj in
    λ i. m0.r0 i
    ∷ m0.r1 i
    ∷ m0.r2 i
    ∷ m0.r3 i
    ∷ m1.r0 i
    ∷ m1.r1 i
    ∷ m1.r2 i
    ∷ m1.r3 i
    ∷ m2.r0 i
    ∷ m2.r1 i
    ∷ m2.r2 i
    ∷ m2.r3 i
    ∷ m3.r0 i
    ∷ m3.r1 i
    ∷ m3.r2 i
    ∷ m3.r3 i ∷ []
