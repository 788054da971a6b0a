use Rattle.std.proofs.Common.{◌≡◌, ◌==◌, ◌∙◌, List, ℕ, replicate, ap, if◌then◌else◌, Some}
use Rattle.page_cache.specs.Pages.{Page, held_bytes}
use Rattle.pager.specs.Changed.{Changed}
use Rattle.pager.proofs.ChangedLemmas.{bytes_written, listing_written}
use Rattle.pager.proofs.changed.ChangedPages.clear.Goals as goal

pub invariant_of-self : goal.invariant_of-self
invariant_of-self c =
    let old : Changed = Rattle.pager.specs.contracts.changed.ChangedPages.the_view c.self.inside in
    (listing_written c.args.n _ old c.self.invariant.0, c.self.invariant.1, c.self.invariant.2)

pub returns-clause-bytes : goal.returns-clause-bytes
returns-clause-bytes c = λ m.
    let n = c.args.n in
    let same : c.self.inside.cache.held ≡ c.args.self.now.held = ap (λ (v : Changed). v.held) c.self.view_is in
    let usable : c.self.inside.cache.usable ≡ c.args.self.now.usable = ap (λ (v : Changed). v.usable) c.self.view_is in
    let zeros : c.fill.new.self ≡ replicate c.args.self.now.usable 0 =
    c.fill.ensures.after (λ y is. is) ∙ ap (λ (k : ℕ). replicate k 0) (c.at_mut.ensures.size ∙ usable) in
    bytes_written n _ _ c.self.inside.cache.held c.at_mut.ensures.value c.fill.ensures.len m
    ∙ ap (λ (w : List ℕ). if m == n then Some w else held_bytes m c.self.inside.cache.held) zeros
    ∙ ap (λ (ps : List Page). if m == n then Some (replicate c.args.self.now.usable 0) else held_bytes m ps) same
