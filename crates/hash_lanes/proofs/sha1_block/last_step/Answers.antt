use Rattle.std.proofs.Common.{ℕ, List, [], ◌+◌, ◌%◌, ap, sym, arith, refl, slice_index}
use Rattle.std.specs.Prelude.{slice_index_or}
use Rattle.sha1.specs.Sha1.{parity, rounds, schedule}
use Rattle.sha1.proofs.Schedule.{round_constant_last, round_fn_last}
use Rattle.hash_lanes.specs.Sha1Lanes.{AreWindows}
use Rattle.hash_lanes.proofs.Sha1Windows.{rounds_more, windows_next, word_made}
use Rattle.hash_lanes.proofs.sha1_block.last_step.Goals as goal

pub returns : goal.returns
returns c = λ B H held.
    let t = c.args.t in
    let w = c.args.w.now in
    let word = c.next_word-word in
    let R : ℕ → List ℕ = λ i. rounds (H i) (schedule (B i) 64) t in
    let is = word_made B w t word.result (omega arith) (omega arith) held.0 word.ensures.value in
    let moved = windows_next B w t (t % 16) word.result (omega arith) held.0 refl is in
    let window : AreWindows B word.new.w (t + 1) = rw word.ensures.window moved in
    let chosen = c.parity.ensures (λ i. slice_index (R i) 1) (λ i. slice_index (R i) 2) (λ i. slice_index (R i) 3)
    (ap (λ (l : List (List ℕ)). slice_index_or l 1 []) held.1) (ap (λ (l : List (List ℕ)). slice_index_or l 2 []) held.1)
    (ap (λ (l : List (List ℕ)). slice_index_or l 3 []) held.1) in (
      window,
      rounds_more B H t _ parity c.round.result (sym (round_constant_last t (omega arith)))
          (λ x y z. sym (round_fn_last t x y z (omega arith)))
          (c.round.ensures R (λ i. parity (slice_index (R i) 1) (slice_index (R i) 2) (slice_index (R i) 3))
          (λ i. slice_index (schedule (B i) 64) t) held.1 chosen is),
    )
