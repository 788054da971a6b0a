use Rattle.std.proofs.Common.{◌≡◌, ◌+◌, ◌-◌, ◌*◌, ℕ, List, length, ap, ◌∙◌, arith}
use Rattle.page_codec.specs.Page.{FileKeys, accepts}
use Rattle.page_codec.specs.Pages.{run_from}
use Rattle.page_codec.proofs.PageFacts.{ends_by}
use Rattle.page_codec.proofs.SideBySide.{answered_more, answered_none, cut_page}
use Rattle.page_codec.proofs.codec.Codec.each_holds.Goals as goal

pub slice_bounds-tag_holds-end : goal.slice_bounds-tag_holds-end
slice_bounds-tag_holds-end c =
    let size : ℕ = c.args.self.now.profile.page_size in
    let i : ℕ = c.pages.i in
    let s : ℕ = c.self.inside.profile.page_size in
    let inner : s ≡ size = ap (λ (f : FileKeys). f.profile.page_size) c.self.view_is in
    let place : s * i ≡ size * i = ap (λ (n : ℕ). n * i) inner in
    omega (
      arith,
      place,
      inner,
      ends_by size i (length c.args.held.now) (omega (arith, c.pages-test.true, c.requires.within)),
      c.requires.size,
    )

pub pages-init : goal.pages-init
pages-init c = answered_none c.args.self.now (run_from c.args.first) c.args.pages.now c.args.from c.args.held.now

pub pages-preserved : goal.pages-preserved
pages-preserved c =
    let file = c.args.self.now in
    let pages : List ℕ = c.args.pages.now in
    let size : ℕ = file.profile.page_size in
    let i : ℕ = c.pages.i in
    let s : ℕ = c.self.inside.profile.page_size in
    let inner : s ≡ size = ap (λ (f : FileKeys). f.profile.page_size) c.self.view_is in
    let place : s * i ≡ size * i = ap (λ (n : ℕ). n * i) inner in
    answered_more file (run_from c.args.first) pages c.args.from i c.args.held.now c.pages.held c.tag_holds.result (omega arith)
    (omega (arith, c.pages-test.true, c.requires.within)) c.pages.invariant
    (c.tag_holds.ensures
    ∙ ap (accepts file (c.args.first + i)) (cut_page pages size i (s * i) (s * i + s - s * i) place (omega (arith, place, inner))))
