use Rattle.std.proofs.Common.{◌≡◌, ◌+◌, ◌-◌, ◌*◌, ◌%◌, [], ap, sym, ◌∙◌, arith, refl, slice_index}
use Rattle.std.specs.Prelude.{slice_index_or}
use Rattle.sha2.specs.Sha512.{rounds, schedule}
use Rattle.hash_lanes.specs.Lanes.{AreWindows, four}
use Rattle.hash_lanes.proofs.Windows.{at_round, rounds_more, windows_next, words_at, words_next}
use Rattle.hash_lanes.proofs.block.step.Goals as goal

pub returns : goal.returns
returns c = λ B H held.
    let place = c.args.place in
    let t = 16 * c.args.turn + place in
    let w = c.args.w.now in
    let word = c.next_word-word.ensures in
    let at : place % 16 ≡ place = omega arith in
    let oldest = ap (λ k. slice_index_or w k []) (sym at) ∙ words_at B w t 0 place (t - 16) held.0 (omega arith) (omega arith) (omega arith) in
    let is : c.next_word-word.result ≡ four (λ i. slice_index (schedule (B i) 64) t) =
    word.value (λ i. slice_index (schedule (B i) 64) (t - 2)) (λ i. slice_index (schedule (B i) 64) (t - 7))
    (λ i. slice_index (schedule (B i) 64) (t - 15)) (λ i. slice_index (schedule (B i) 64) (t - 16))
    (words_at B w t 14 (place + 14) (t - 2) held.0 (omega arith) (omega arith) (omega arith))
    (words_at B w t 9 (place + 9) (t - 7) held.0 (omega arith) (omega arith) (omega arith))
    (words_at B w t 1 (place + 1) (t - 15) held.0 (omega arith) (omega arith) (omega arith))
    oldest ∙ words_next B t (omega arith) (omega arith) in
    let moved = windows_next B w t place c.next_word-word.result (omega arith) held.0 (omega arith) is in
    let window : AreWindows B c.next_word-word.new.w (t + 1) = rw word.window moved in
    at_round B H _ _ (t + 1) _ (omega arith) (
      window,
      rounds_more B H t _ c.round.result refl
          (c.round.ensures (λ i. rounds (H i) (schedule (B i) 64) t) (λ i. slice_index (schedule (B i) 64) t) held.1 is),
    )
