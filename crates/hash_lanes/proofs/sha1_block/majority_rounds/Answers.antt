use Rattle.hash_lanes.proofs.sha1_block.majority_rounds.Goals as goal

pub returns : goal.returns
returns c = λ B H held.
    let s1 = c.majority_four-v.ensures B H held in
    let s2 = c.majority_four-v-2.ensures B H s1 in
    let s3 = c.majority_four-v-3.ensures B H s2 in
    let s4 = c.majority_four-v-4.ensures B H s3 in
    c.majority_four.ensures B H s4
