use Rattle.std.proofs.Common.{◌≡◌, ◌==◌, ◌∙◌, List, ℕ, length, sym, ap, arith, if◌then◌else◌, Some}
use Rattle.page_cache.specs.Pages.{Page, held_bytes}
use Rattle.pager.specs.Changed.{Changed, with_bytes}
use Rattle.pager.specs.Held.{bytes_of_page}
use Rattle.pager.proofs.ChangedLemmas.{bytes_written, length_over, listing_written, page_is, put_over}
use Rattle.pager.proofs.changed.ChangedPages.put.Goals as goal

pub invariant_of-self : goal.invariant_of-self
invariant_of-self c =
    let old : Changed = Rattle.pager.specs.contracts.changed.ChangedPages.the_view c.self.inside in
    (listing_written c.args.n _ old c.self.invariant.0, c.self.invariant.1, c.self.invariant.2)

pub returns-clause-bytes : goal.returns-clause-bytes
returns-clause-bytes c = λ m.
    let n = c.args.n in
    let src = c.args.bytes.now in
    let page = c.at_mut-page.result.now in
    let same : c.self.inside.cache.held ≡ c.args.self.now.held = ap (λ (v : Changed). v.held) c.self.view_is in
    let usable : c.self.inside.cache.usable ≡ c.args.self.now.usable = ap (λ (v : Changed). v.usable) c.self.view_is in
    let there = c.at_mut-page.ensures.value in
    let over = put_over c.args.at src c.copy_from_slice.new.self page c.copy_from_slice.ensures.after in
    let long = ap length over ∙ length_over c.args.at src page (omega (arith, c.requires.within, usable, c.at_mut-page.ensures.size)) in
    let here : bytes_of_page n c.args.self.now.held ≡ page = ap (λ (ps : List Page). bytes_of_page n ps) (sym same) ∙ page_is n page c.self.inside.cache.held there in
    bytes_written n _ page c.self.inside.cache.held there long m
    ∙ ap (λ (w : List ℕ). if m == n then Some w else held_bytes m c.self.inside.cache.held) (over ∙ ap (λ (l : List ℕ). with_bytes c.args.at src l) (sym here))
    ∙ ap (λ (ps : List Page). if m == n then Some (with_bytes c.args.at src (bytes_of_page n c.args.self.now.held)) else held_bytes m ps) same
