use Rattle.std.proofs.Common.{◌≡◌, ◌∙◌, ◌≤◌, ◌+◌, ◌*◌, ℕ, List, length, ap, length-append}
use Rattle.page_codec.proofs.PageFacts.{earlier}
use Rattle.fresh_file.proofs.held.lay.Goals as goal

pub returns-clause-earlier : goal.returns-clause-earlier
returns-clause-earlier c j lt =
    let plain : List ℕ = c.args.plain.now in
    let draw : List ℕ = c.args.draw.now in
    let size : ℕ = length plain + length draw in
    let within : size * c.args.k + size ≤ length c.args.pages.now = c.requires.room in
    let long : length c.lay_page.new.page ≡ size = ap (λ (l : List ℕ). length l) c.lay_page.ensures ∙ length-append plain draw in
    earlier size c.args.k c.args.pages.now c.lay_page.new.page within long j lt
