use Rattle.std.proofs.Common.{arith, ◌+◌, ◌∙◌, sym, refl}
use Rattle.page_cache.specs.Pages.{pin_more}
use Rattle.page_cache.proofs.Effects as effects
use Rattle.page_cache.proofs.cache.Cache.pin.Goals as goal

pub overflow_add-held : goal.overflow_add-held
overflow_add-held c =
    let r = rw (sym c.self.view_is) at c.requires in let s = rw (effects.page_held c.self.inside.store.items c.self.inside.table.entries c.args.n c.in-Some.frame c.in-Some.held (sym c.entry_of.ensures.value ∙ c.in-Some.is)) at r in record { fits = omega arith }

pub set_held-requires : goal.set_held-requires
set_held-requires c =
    effects.there c.self.inside.store.items c.self.inside.table.entries c.args.n c.in-Some.frame c.in-Some.held (sym c.entry_of.ensures.value ∙ c.in-Some.is) c.self.inside.usable c.self.inside.index.frames c.self.invariant c.entry_of.ensures.valid.0

pub invariant_of-self : goal.invariant_of-self
invariant_of-self c =
    rw c.set_held.ensures (effects.tied_set c.self.inside.store.items c.self.inside.table.entries c.args.n c.in-Some.frame c.in-Some.held (sym c.entry_of.ensures.value ∙ c.in-Some.is) c.self.inside.usable c.self.inside.index.frames c.self.invariant c.entry_of.ensures.valid.0 (record c.in-Some.held { pins = c.in-Some.held.pins + 1 }) refl)

pub returns-in-Some-clause-value : goal.returns-in-Some-clause-value
returns-in-Some-clause-value c =
    rw (sym c.self.view_is) (rw (effects.held_is c.self.inside.store.items c.self.inside.table.entries c.args.n) (rw (sym c.entry_of.ensures.value ∙ c.in-Some.is) refl))

pub returns-in-Some-clause-more : goal.returns-in-Some-clause-more
returns-in-Some-clause-more c =
    rw (sym c.self.view_is) (rw c.set_held.ensures (rw (effects.shows_set c.self.inside.store.items c.self.inside.table.entries c.args.n c.in-Some.frame c.in-Some.held (sym c.entry_of.ensures.value ∙ c.in-Some.is) c.self.inside.usable c.self.inside.index.frames c.self.invariant c.entry_of.ensures.valid.0 (record c.in-Some.held { pins = c.in-Some.held.pins + 1 }) (pin_more) refl) refl))

pub returns-in-None-clause-value : goal.returns-in-None-clause-value
returns-in-None-clause-value c =
    rw (sym c.self.view_is) (rw (effects.held_is c.self.inside.store.items c.self.inside.table.entries c.args.n) (rw (sym c.entry_of.ensures.value ∙ c.in-None.is) refl))

pub returns-in-None-clause-more : goal.returns-in-None-clause-more
returns-in-None-clause-more c =
    rw (sym c.self.view_is) (rw (sym (effects.nothing_changed c.self.inside.store.items c.self.inside.table.entries c.args.n (sym c.entry_of.ensures.value ∙ c.in-None.is) (pin_more))) refl)
