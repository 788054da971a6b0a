use Rattle.std.proofs.Common.{◌≡◌, ◌≤◌, ◌<◌, ◌∷◌, ◌∙◌, false, length, sym, subst}
use Rattle.page_cache.specs.Pages.{fresh_frame, is_held}
use Rattle.pager.specs.Changed.{Changed}
use Rattle.pager.proofs.ChangedLemmas.{listing_added}
use Rattle.pager.proofs.Filling.{on_ok}
use Rattle.pager.proofs.changed.ChangedPages.add.Goals as goal

pub invariant_of-self : goal.invariant_of-self
invariant_of-self c =
    let n = c.args.n in
    let old : Changed = Rattle.pager.specs.contracts.changed.ChangedPages.the_view c.self.inside in
    let placed : c.hold.new.self ≡ record c.self.inside.cache { held = fresh_frame n c.self.inside.cache.usable ∷ c.self.inside.cache.held } =
    on_ok c.hold.result (sym c.is_ok.ensures.value ∙ c.if-is_ok.true) c.hold.ensures.placed in
    let to : n ≤ old.pages = subst (λ (v : Changed). n ≤ v.pages) (sym c.self.view_is) c.requires.number.1 in
    let fresh : is_held n old.held ≡ false = subst (λ (v : Changed). is_held n v.held ≡ false) (sym c.self.view_is) c.requires.fresh in
    let room : length old.numbers < old.frames = subst (λ (v : Changed). length v.numbers < v.frames) (sym c.self.view_is) c.requires.room in
    rw (placed, c.push_reserved.ensures.items, c.push_reserved.ensures.capacity)
    (listing_added old n c.self.invariant.0 c.requires.number.0 to fresh room, c.self.invariant.1, c.self.invariant.2)
