use Rattle.sha1.specs.Sha1.{rounds}
use Rattle.hash_lanes.proofs.sha1_block.choose_rounds.Goals as goal

pub returns : goal.returns
unfolding rounds
returns c = λ B H window e.
    let s1 = c.first_four_steps-v.ensures B H window e in
    let s2 = c.first_four_steps-v-2.ensures B H window s1 in
    let s3 = c.first_four_steps-v-3.ensures B H window s2 in
    let s4 = c.first_four_steps-v-4.ensures B H window s3 in
    c.choose_four.ensures B H (window, s4)
