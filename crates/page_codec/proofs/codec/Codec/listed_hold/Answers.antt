use Rattle.std.proofs.Common.{◌≡◌, ◌+◌, ◌-◌, ◌*◌, ℕ, List, length, ap, ◌∙◌, arith, slice_index}
use Rattle.page_codec.specs.Page.{FileKeys, accepts}
use Rattle.page_codec.specs.Pages.{listed}
use Rattle.page_codec.proofs.PageFacts.{ends_by}
use Rattle.page_codec.proofs.SideBySide.{answered_more, cut_page}
use Rattle.page_codec.proofs.codec.Codec.listed_hold.Goals as goal

pub slice_bounds-tag_holds-end : goal.slice_bounds-tag_holds-end
slice_bounds-tag_holds-end c =
    let size : ℕ = c.args.self.now.profile.page_size in
    let i : ℕ = c.rest.i in
    let s : ℕ = c.self.inside.profile.page_size in
    let inner : s ≡ size = ap (λ (f : FileKeys). f.profile.page_size) c.self.view_is in
    let place : s * i ≡ size * i = ap (λ (n : ℕ). n * i) inner in
    omega (
      arith,
      place,
      inner,
      ends_by size i (length c.args.numbers.now) c.rest-test.true,
      c.requires.size,
    )

pub rest-preserved : goal.rest-preserved
rest-preserved c =
    let file = c.args.self.now in
    let numbers : List ℕ = c.args.numbers.now in
    let pages : List ℕ = c.args.pages.now in
    let size : ℕ = file.profile.page_size in
    let i : ℕ = c.rest.i in
    let s : ℕ = c.self.inside.profile.page_size in
    let inner : s ≡ size = ap (λ (f : FileKeys). f.profile.page_size) c.self.view_is in
    let place : s * i ≡ size * i = ap (λ (n : ℕ). n * i) inner in
    answered_more file (listed numbers) pages 0 i c.args.held.now c.rest.held c.tag_holds.result (omega arith)
    (omega (arith, c.rest-test.true, c.requires.many)) c.rest.invariant
    (c.tag_holds.ensures
    ∙ ap (accepts file (slice_index numbers i)) (cut_page pages size i (s * i) (s * i + s - s * i) place (omega (arith, place, inner))))
