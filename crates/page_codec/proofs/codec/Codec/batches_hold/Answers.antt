use Rattle.std.proofs.Common.{◌≡◌, ◌≤◌, ◌+◌, ℕ, List, length, ap, ◌∙◌, arith, subst}
use Rattle.std.specs.Prelude.{Bool}
use Rattle.std.proofs.lemmas.List.Elements.{All-get_or}
use Rattle.page_codec.specs.MacKey.{at_once}
use Rattle.page_codec.specs.Page.{FileKeys}
use Rattle.page_codec.specs.Pages.{AreAnswered, AreEnds, listed}
use Rattle.page_codec.proofs.SideBySide.{answered_then}
use Rattle.page_codec.proofs.codec.Codec.batches_hold.Goals as goal

pub batches-preserved : goal.batches-preserved
batches-preserved c =
    let file = c.args.self.now in
    let numbers : List ℕ = c.args.numbers.now in
    let pages : List ℕ = c.args.pages.now in
    let old : List Bool = c.args.held.now in
    let done : ℕ = c.batches.done in
    let new : List Bool = c.later_hold.new.held in
    let step : ℕ = at_once file.profile.hash in
    let count : c.at_once-count.result ≡ step =
    c.at_once-count.ensures.value ∙ ap (λ (f : FileKeys). at_once f.profile.hash) c.self.view_is in
    let next : done + step ≡ done + c.at_once-count.result = omega (arith, count) in
    let fits : done + step ≤ length numbers = omega (arith, count, c.batches-test.true, c.batches.invariant.within) in
    let ends : AreEnds (listed numbers) done step c.numbers_at-ends.result = λ j less. (
      All-get_or (λ (m : ℕ). 2 ≤ m) numbers (done + j) 0 (omega (arith, less, fits)) c.requires.numbers,
      c.numbers_at-ends.ensures j (omega (arith, less, count)),
    ) in
    record {
      within = omega (arith, fits, next);
      answered = subst (λ (to : ℕ). AreAnswered file (listed numbers) pages 0 to old new) next
          (answered_then file (listed numbers) pages 0 done (done + step) old c.batches.held new (omega arith) (omega arith)
          c.batches.invariant.answered (c.later_hold.ensures (listed numbers) ends));
    }
