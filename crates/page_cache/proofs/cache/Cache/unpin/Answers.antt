use Rattle.std.proofs.Common.{◌-◌, ◌∙◌, sym, refl}
use Rattle.page_cache.specs.Pages.{pin_less}
use Rattle.page_cache.proofs.Effects as effects
use Rattle.page_cache.proofs.cache.Cache.unpin.Goals as goal

pub returns-then-held-eq0-clause-value : goal.returns-then-held-eq0-clause-value
returns-then-held-eq0-clause-value c =
    rw (sym c.self.view_is) (rw (effects.page_held c.self.inside.store.items c.self.inside.table.entries c.args.n c.in-Some.frame c.in-Some.held (sym c.entry_of.ensures.value ∙ c.in-Some.is)) (rw c.if-held-eq0.true refl))

pub returns-then-held-eq0-clause-less : goal.returns-then-held-eq0-clause-less
returns-then-held-eq0-clause-less c =
    rw (sym c.self.view_is) (rw (sym (effects.shows_same c.self.inside.store.items c.self.inside.table.entries c.args.n c.in-Some.frame c.in-Some.held (sym c.entry_of.ensures.value ∙ c.in-Some.is) c.self.inside.usable c.self.inside.index.frames c.self.invariant c.entry_of.ensures.valid.0 pin_less (rw c.if-held-eq0.true refl))) refl)

pub set_held-requires : goal.set_held-requires
set_held-requires c =
    effects.there c.self.inside.store.items c.self.inside.table.entries c.args.n c.in-Some.frame c.in-Some.held (sym c.entry_of.ensures.value ∙ c.in-Some.is) c.self.inside.usable c.self.inside.index.frames c.self.invariant c.entry_of.ensures.valid.0

pub invariant_of-self : goal.invariant_of-self
invariant_of-self c =
    rw c.set_held.ensures (effects.tied_set c.self.inside.store.items c.self.inside.table.entries c.args.n c.in-Some.frame c.in-Some.held (sym c.entry_of.ensures.value ∙ c.in-Some.is) c.self.inside.usable c.self.inside.index.frames c.self.invariant c.entry_of.ensures.valid.0 (record c.in-Some.held { pins = c.in-Some.held.pins - 1 }) refl)

pub returns-else-held-eq0-clause-value : goal.returns-else-held-eq0-clause-value
returns-else-held-eq0-clause-value c =
    rw (sym c.self.view_is) (rw (effects.page_held c.self.inside.store.items c.self.inside.table.entries c.args.n c.in-Some.frame c.in-Some.held (sym c.entry_of.ensures.value ∙ c.in-Some.is)) (effects.some_pin c.in-Some.held.pins c.if-held-eq0.false))

pub returns-else-held-eq0-clause-less : goal.returns-else-held-eq0-clause-less
returns-else-held-eq0-clause-less c =
    rw (sym c.self.view_is) (rw c.set_held.ensures (rw (effects.shows_set c.self.inside.store.items c.self.inside.table.entries c.args.n c.in-Some.frame c.in-Some.held (sym c.entry_of.ensures.value ∙ c.in-Some.is) c.self.inside.usable c.self.inside.index.frames c.self.invariant c.entry_of.ensures.valid.0 (record c.in-Some.held { pins = c.in-Some.held.pins - 1 }) (pin_less) refl) refl))

pub returns-in-None-clause-value : goal.returns-in-None-clause-value
returns-in-None-clause-value c =
    rw (sym c.self.view_is) (rw (effects.page_absent c.self.inside.store.items c.self.inside.table.entries c.args.n (sym c.entry_of.ensures.value ∙ c.in-None.is)) refl)

pub returns-in-None-clause-less : goal.returns-in-None-clause-less
returns-in-None-clause-less c =
    rw (sym c.self.view_is) (rw (sym (effects.nothing_changed c.self.inside.store.items c.self.inside.table.entries c.args.n (sym c.entry_of.ensures.value ∙ c.in-None.is) (pin_less))) refl)
