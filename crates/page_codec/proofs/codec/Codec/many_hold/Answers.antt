use Rattle.std.proofs.Common.{◌≡◌, ◌+◌, ℕ, List, ap, ◌∙◌, arith, subst}
use Rattle.std.specs.Prelude.{Bool}
use Rattle.page_codec.specs.MacKey.{at_once}
use Rattle.page_codec.specs.Page.{FileKeys}
use Rattle.page_codec.specs.Pages.{AreAnswered, run_from}
use Rattle.page_codec.proofs.SideBySide.{answered_then}
use Rattle.page_codec.proofs.codec.Codec.many_hold.Goals as goal

pub batches-preserved : goal.batches-preserved
batches-preserved c =
    let file = c.args.self.now in
    let first : ℕ = c.args.first in
    let pages : List ℕ = c.args.pages.now in
    let old : List Bool = c.args.held.now in
    let done : ℕ = c.batches.done in
    let new : List Bool = c.batch_holds.new.held in
    let step : ℕ = at_once file.profile.hash in
    let count : c.at_once-count.result ≡ step =
    c.at_once-count.ensures.value ∙ ap (λ (f : FileKeys). at_once f.profile.hash) c.self.view_is in
    let next : done + step ≡ done + c.at_once-count.result = omega (arith, count) in
    record {
      within = omega (arith, c.batches-test.true, c.batch_holds.ensures.length_kept, c.batches.invariant.within, c.at_once-count.ensures.some);
      answered = subst (λ (to : ℕ). AreAnswered file (run_from first) pages 0 to old new) next
          (answered_then file (run_from first) pages 0 done (done + step) old c.batches.held new (omega arith) (omega arith) c.batches.invariant.answered
          c.batch_holds.ensures);
    }
