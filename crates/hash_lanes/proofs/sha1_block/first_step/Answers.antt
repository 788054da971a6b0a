use Rattle.std.proofs.Common.{ℕ, List, [], ap, sym, arith, slice_index}
use Rattle.std.specs.Prelude.{slice_index_or}
use Rattle.sha1.specs.Sha1.{ch, rounds, schedule}
use Rattle.sha1.proofs.Schedule.{round_constant_choose, round_fn_choose}
use Rattle.hash_lanes.proofs.Sha1Windows.{first_words_at, rounds_more}
use Rattle.hash_lanes.proofs.sha1_block.first_step.Goals as goal

pub returns : goal.returns
returns c = λ B H window held.
    let t = c.args.t in
    let R : ℕ → List ℕ = λ i. rounds (H i) (schedule (B i) 64) t in
    let choice = c.ch.ensures (λ i. slice_index (R i) 1) (λ i. slice_index (R i) 2) (λ i. slice_index (R i) 3)
    (ap (λ (l : List (List ℕ)). slice_index_or l 1 []) held) (ap (λ (l : List (List ℕ)). slice_index_or l 2 []) held)
    (ap (λ (l : List (List ℕ)). slice_index_or l 3 []) held) in
    rounds_more B H t _ ch c.round.result (sym (round_constant_choose t (omega arith)))
    (λ x y z. sym (round_fn_choose t x y z (omega arith)))
    (c.round.ensures R (λ i. ch (slice_index (R i) 1) (slice_index (R i) 2) (slice_index (R i) 3)) (λ i. slice_index (schedule (B i) 64) t)
    held choice (first_words_at B c.args.w.now t window (omega arith)))
