use Rattle.std.proofs.Common.{◌≡◌, ◌+◌, ℕ, List, ap, ◌∙◌, arith, subst}
use Rattle.page_codec.specs.MacKey.{at_once}
use Rattle.page_codec.specs.Page.{FileKeys}
use Rattle.page_codec.specs.Pages.{AreTagged}
use Rattle.page_codec.proofs.PageFacts.{tagged_then}
use Rattle.page_codec.proofs.codec.Codec.put_many.Goals as goal

pub batches-preserved : goal.batches-preserved
batches-preserved c =
    let file = c.args.self.now in
    let numbers : List ℕ = c.args.numbers.now in
    let old : List ℕ = c.args.pages.now in
    let done : ℕ = c.batches.done in
    let new : List ℕ = c.put_batch.new.pages in
    let step : ℕ = at_once file.profile.hash in
    let count : c.at_once-count.result ≡ step =
    c.at_once-count.ensures.value ∙ ap (λ (f : FileKeys). at_once f.profile.hash) c.self.view_is in
    let next : done + step ≡ done + c.at_once-count.result = omega (arith, count) in
    record {
      within = omega (arith, c.batches-test.true, c.batches.invariant.within);
      tagged = subst (λ (to : ℕ). AreTagged file numbers 0 to old new) next
          (tagged_then file numbers 0 done (done + step) old c.batches.pages new (omega arith) (omega arith) c.batches.invariant.tagged
          c.put_batch.ensures);
    }
