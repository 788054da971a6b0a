use Rattle.std.proofs.Common.{◌≡◌, ◌+◌, ℕ, ap, ◌∙◌, arith}
use Rattle.std.specs.Int.{w32, to_le_bytes}
use Rattle.page_codec.specs.MacKey.{at_once}
use Rattle.page_codec.specs.Page.{FileKeys}
use Rattle.page_codec.specs.Pages.{AreEnds, run_from}
use Rattle.page_codec.proofs.codec.Codec.batch_holds.Goals as goal

pub returns-then-first-at-gt1 : goal.returns-then-first-at-gt1
returns-then-first-at-gt1 c =
    let first : ℕ = c.args.first in
    let at : ℕ = c.args.at in
    let count : c.at_once-count.result ≡ at_once c.args.self.now.profile.hash =
    c.at_once-count.ensures.value ∙ ap (λ (f : FileKeys). at_once f.profile.hash) c.self.view_is in
    let ends : AreEnds (run_from first) at (at_once c.args.self.now.profile.hash) c.numbers_from-ends.result = λ j less.
    let place : first + at + j ≡ first + (at + j) = omega arith in
    (omega (arith, c.if-first-at-gt1.true), c.numbers_from-ends.ensures j (omega (arith, less, count)) ∙ ap (to_le_bytes w32) place) in
    c.later_hold.ensures (run_from first) ends
