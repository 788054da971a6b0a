use Rattle.std.proofs.Common.{arith}
use Rattle.hash_lanes.proofs.Sha1Windows.{at_round}
use Rattle.hash_lanes.proofs.sha1_block.parity_four.Goals as goal

pub returns : goal.returns
returns c = λ B H held.
    let s1 = c.parity_step-v.ensures B H held in
    let s2 = c.parity_step-v-2.ensures B H s1 in
    let s3 = c.parity_step-v-3.ensures B H (at_round B H _ _ _ _ (omega arith) s2) in
    let s4 = c.parity_step.ensures B H (at_round B H _ _ _ _ (omega arith) s3) in
    at_round B H _ _ _ _ (omega arith) s4
