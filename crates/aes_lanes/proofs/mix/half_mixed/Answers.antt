use Rattle.std.proofs.Common.{ap, ◌∙◌}
use Rattle.std.specs.Prelude.{bit_xor}
use Rattle.aes_block.specs.Field.{gf_mul}
use Rattle.aes_lanes.specs.Planes.{byte_in}
use Rattle.aes_lanes.proofs.RowFacts.{byte_in-lt}
use Rattle.aes_lanes.proofs.MatrixFacts.{half_row0, half_row1, half_row2, half_row3}
use Rattle.aes_lanes.proofs.mix.half_mixed.Goals as goal

pub returns-clause-bytes : goal.returns-clause-bytes
returns-clause-bytes c k j hk hj =
    let u = c.double-u.ensures.bytes k j hk hj ∙ ap (gf_mul 2) (c.double.ensures.bytes k j hk hj ∙ ap (gf_mul 2) (c.xor.ensures.bytes k j hk hj)) in
    let w = c.double-w.ensures.bytes k j hk hj ∙ ap (gf_mul 2) (c.double-2.ensures.bytes k j hk hj
    ∙ ap (gf_mul 2) (c.xor-2.ensures.bytes k j hk hj)) in
    record {
      r0 = c.xor-3.ensures.bytes k j hk hj ∙ ap (bit_xor (byte_in c.args.s.r0 k j)) u
          ∙ half_row0 (byte_in c.args.s.r0 k j) (byte_in c.args.s.r1 k j) (byte_in c.args.s.r2 k j) (byte_in c.args.s.r3 k j)
          (byte_in-lt c.args.s.r0 k j) (byte_in-lt c.args.s.r1 k j) (byte_in-lt c.args.s.r2 k j) (byte_in-lt c.args.s.r3 k j);
      r1 = c.xor-4.ensures.bytes k j hk hj ∙ ap (bit_xor (byte_in c.args.s.r1 k j)) w
          ∙ half_row1 (byte_in c.args.s.r0 k j) (byte_in c.args.s.r1 k j) (byte_in c.args.s.r2 k j) (byte_in c.args.s.r3 k j)
          (byte_in-lt c.args.s.r0 k j) (byte_in-lt c.args.s.r1 k j) (byte_in-lt c.args.s.r2 k j) (byte_in-lt c.args.s.r3 k j);
      r2 = c.xor-5.ensures.bytes k j hk hj ∙ ap (bit_xor (byte_in c.args.s.r2 k j)) u
          ∙ half_row2 (byte_in c.args.s.r0 k j) (byte_in c.args.s.r1 k j) (byte_in c.args.s.r2 k j) (byte_in c.args.s.r3 k j)
          (byte_in-lt c.args.s.r0 k j) (byte_in-lt c.args.s.r1 k j) (byte_in-lt c.args.s.r2 k j) (byte_in-lt c.args.s.r3 k j);
      r3 = c.xor-6.ensures.bytes k j hk hj ∙ ap (bit_xor (byte_in c.args.s.r3 k j)) w
          ∙ half_row3 (byte_in c.args.s.r0 k j) (byte_in c.args.s.r1 k j) (byte_in c.args.s.r2 k j) (byte_in c.args.s.r3 k j)
          (byte_in-lt c.args.s.r0 k j) (byte_in-lt c.args.s.r1 k j) (byte_in-lt c.args.s.r2 k j) (byte_in-lt c.args.s.r3 k j);
    }
