use Rattle.std.proofs.Common.{◌≡◌, ◌≤◌, ◌+◌, ◌-◌, ◌*◌, ℕ, List, length, take, drop, ap, ◌∙◌, arith, subst}
use Rattle.std.specs.Prelude.{Bool, false, slice_index, slice_index_or}
use Rattle.page_codec.specs.Page.{FileKeys}
use Rattle.page_codec.specs.Pages.{IsOpenedIf, nth_page}
use Rattle.page_codec.proofs.PageFacts.{ends_by, length-page, pages_more}
use Rattle.page_codec.proofs.SideBySide.{cut_page}
use Rattle.page_codec.proofs.codec.Codec.open_held.Goals as goal

pub pages-preserved : goal.pages-preserved
pages-preserved c =
    let file = c.args.self.now in
    let old : List ℕ = c.args.pages.now in
    let pages : List ℕ = c.pages.pages in
    let held : List Bool = c.args.held.now in
    let size : ℕ = file.profile.page_size in
    let i : ℕ = c.pages.i in
    let numbers : List ℕ = c.args.numbers.now in
    let n : ℕ = slice_index numbers i in
    let s : ℕ = c.self.inside.profile.page_size in
    let inner : s ≡ size = ap (λ (f : FileKeys). f.profile.page_size) c.self.view_is in
    let place : s * i ≡ size * i = ap (λ (m : ℕ). m * i) inner in
    let whole : s * i + s - s * i ≡ size = omega (arith, place, inner) in
    let within : size * i + size ≤ length pages = omega
    (arith, ends_by size i (length numbers) c.pages-test.true, c.pages.invariant.length_kept, c.requires.size) in
    let page : take (s * i + s - s * i) (drop (s * i) pages) ≡ nth_page size old i =
    cut_page pages size i (s * i) (s * i + s - s * i) place whole ∙ c.pages.invariant.left i (omega arith) in
    let opened : IsOpenedIf file n (slice_index_or held i false) (nth_page size old i) c.open_if.new.page =
    subst (λ (l : List ℕ). IsOpenedIf file n (slice_index_or held i false) l c.open_if.new.page) page c.open_if.ensures.opened in
    let long : length c.open_if.new.page ≡ size =
    c.open_if.ensures.size ∙ ap (λ (l : List ℕ). length l) (cut_page pages size i (s * i) (s * i + s - s * i) place whole)
    ∙ length-page size i pages within in
    rw inner (pages_more (λ (k : ℕ) (l : List ℕ). IsOpenedIf file (slice_index numbers k) (slice_index_or held k false) (nth_page size old k) l)
    size old pages c.open_if.new.page i c.pages.invariant within long opened)
