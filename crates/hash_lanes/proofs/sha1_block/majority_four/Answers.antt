use Rattle.std.proofs.Common.{arith}
use Rattle.hash_lanes.proofs.Sha1Windows.{at_round}
use Rattle.hash_lanes.proofs.sha1_block.majority_four.Goals as goal

pub returns : goal.returns
returns c = λ B H held.
    let s1 = c.majority_step-v.ensures B H held in
    let s2 = c.majority_step-v-2.ensures B H s1 in
    let s3 = c.majority_step-v-3.ensures B H (at_round B H _ _ _ _ (omega arith) s2) in
    let s4 = c.majority_step.ensures B H (at_round B H _ _ _ _ (omega arith) s3) in
    at_round B H _ _ _ _ (omega arith) s4
