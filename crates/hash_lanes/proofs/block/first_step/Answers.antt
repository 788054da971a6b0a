use Rattle.std.proofs.Common.{refl, slice_index}
use Rattle.sha2.specs.Sha512.{rounds, schedule}
use Rattle.hash_lanes.proofs.Windows.{first_words_at, rounds_more}
use Rattle.hash_lanes.proofs.block.first_step.Goals as goal

pub returns : goal.returns
returns c = λ B H window held.
    let t = c.args.t in
    rounds_more B H t _ c.round.result refl
    (c.round.ensures (λ i. rounds (H i) (schedule (B i) 64) t) (λ i. slice_index (schedule (B i) 64) t) held
    (first_words_at B c.args.w.now t window c.requires))
