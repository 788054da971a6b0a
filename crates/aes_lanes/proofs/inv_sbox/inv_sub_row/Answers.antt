use Rattle.std.proofs.Common.{ℕ, List, ap, sym, ◌∙◌}
use Rattle.aes_lanes.specs.Bits.{number}
use Rattle.aes_lanes.specs.Gates.{differences_of, gathered_of, inverted_of, multiplied_of}
use Rattle.aes_lanes.proofs.RowFacts.{bits_of-byte_in, byte_in-lt}
use Rattle.aes_lanes.proofs.SboxFacts.{gates, gates_are}
use Rattle.aes_lanes.proofs.inv_sbox.inv_sub_row.Goals as goal

pub returns-clause-bytes : goal.returns-clause-bytes
unfolding gates
returns-clause-bytes c k j hk hj =
    let s = c.summed-sums.ensures.bits k j hk hj in
    let d = c.differences.ensures.bits k j hk hj in
    let n = c.inverted.ensures.bits k j hk hj in
    let p = c.multiplied.ensures.bits k j hk hj in
    let g = c.gathered.ensures.bits k j hk hj in
    ap number (g ∙ ap gathered_of (p ∙ (λ i. multiplied_of (s i) ((n ∙ ap inverted_of (d ∙ ap differences_of s)) i))))
    ∙ ap (λ (l : List ℕ). number (gates l)) (sym (bits_of-byte_in c.args.v k j))
    ∙ gates_are _ (byte_in-lt c.args.v k j)
