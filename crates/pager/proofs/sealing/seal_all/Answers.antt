use Rattle.std.proofs.Common.{◌≡◌, ◌∙◌, ◌≤◌, ◌<◌, ◌+◌, ◌*◌, ℕ, List, length, slice_index, IsTrue, sym, ap, subst, arith}
use Rattle.std.specs.Prelude.{All}
use Rattle.page_codec.specs.Page.{accepts, opened}
use Rattle.page_codec.specs.Pages.{nth_page, sealed_page}
use Rattle.page_codec.proofs.PageFacts.{ends_by, length-page}
use Rattle.pager.proofs.Sealed.{from_two, sealed_laid}
use Rattle.pager.proofs.sealing.seal_all.Goals as goal

pub seal_pages-requires-clause-numbers : goal.seal_pages-requires-clause-numbers
seal_pages-requires-clause-numbers c =
    subst (λ (ns : List ℕ). All (λ n. 2 ≤ n) ns) (sym c.numbers.ensures.value) (from_two c.args.changed.now c.numbers.ensures.listing c.requires.others)

pub returns-clause-sealed : goal.returns-clause-sealed
returns-clause-sealed c k less =
    let keys = c.args.codec.now in
    let changed = c.args.changed.now in
    let size : ℕ = keys.profile.page_size in
    let old : List ℕ = c.lay_out.new.pages in
    let new : List ℕ = c.seal_pages.new.pages in
    let there : k < length c.numbers.result.now = subst (λ (ns : List ℕ). k < length ns) (sym c.numbers.ensures.value) less in
    let number : slice_index c.numbers.result.now k ≡ slice_index changed.numbers k = ap (λ (ns : List ℕ). slice_index ns k) c.numbers.ensures.value in
    let within : size * k + size ≤ length new = omega
    (arith, ends_by size k (length changed.numbers) less, c.seal_pages.ensures.size, c.lay_out.ensures.size, c.requires.size) in
    sealed_laid keys changed c.args.draws.now (nth_page size old k) (nth_page size new k) k (c.lay_out.ensures.laid k less)
    (c.seal_pages.ensures.value k there ∙ ap (λ (n : ℕ). sealed_page keys n (nth_page size old k)) number)
    (length-page size k new within)
    (subst (λ (n : ℕ). IsTrue (accepts keys n (nth_page size new k))) number (c.seal_pages.ensures.accepted k there))
    (ap (λ (n : ℕ). opened keys n (nth_page size new k)) (sym number) ∙ c.seal_pages.ensures.opens_to k there)
