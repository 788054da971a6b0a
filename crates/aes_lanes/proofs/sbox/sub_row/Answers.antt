use Rattle.std.proofs.Common.{ℕ, List, ap, sym, ◌∙◌}
use Rattle.aes_lanes.specs.Bits.{number}
use Rattle.aes_lanes.specs.Gates.{differences_of, inverted_of, multiplied_of, output_sums_of}
use Rattle.aes_lanes.proofs.RowFacts.{bits_of-byte_in, byte_in-lt}
use Rattle.aes_lanes.proofs.SboxFacts.{forward_gates, forward_gates_are}
use Rattle.aes_lanes.proofs.sbox.sub_row.Goals as goal

pub returns-clause-bytes : goal.returns-clause-bytes
unfolding forward_gates
returns-clause-bytes c k j hk hj =
    let s = c.input_sums-sums.ensures.bits k j hk hj in
    let d = c.differences.ensures.bits k j hk hj in
    let n = c.inverted.ensures.bits k j hk hj in
    let p = c.multiplied.ensures.bits k j hk hj in
    let g = c.output_sums.ensures.bits k j hk hj in
    ap number (g ∙ ap output_sums_of (p ∙ (λ i. multiplied_of (s i) ((n ∙ ap inverted_of (d ∙ ap differences_of s)) i))))
    ∙ ap (λ (l : List ℕ). number (forward_gates l)) (sym (bits_of-byte_in c.args.v k j))
    ∙ forward_gates_are _ (byte_in-lt c.args.v k j)
