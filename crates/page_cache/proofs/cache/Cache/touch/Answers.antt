use Rattle.std.proofs.Common.{◌∙◌, sym, refl}
use Rattle.page_cache.proofs.Effects as effects
use Rattle.page_cache.proofs.cache.Cache.touch.Goals as goal

pub invariant_of-self : goal.invariant_of-self
invariant_of-self c =
    let x = effects.at_frame c.args.n c.in-Some.frame c.self.inside.table.entries (sym c.frame_of.ensures.value ∙ c.in-Some.is) in rw c.promote.ensures.entries (effects.tied_first c.self.inside.store.items c.self.inside.table.entries c.args.n c.in-Some.frame x.0 (x.1) c.self.inside.usable c.self.inside.index.frames c.self.invariant c.frame_of.ensures.valid.0)

pub returns-in-Some-clause-value : goal.returns-in-Some-clause-value
returns-in-Some-clause-value c =
    let x = effects.at_frame c.args.n c.in-Some.frame c.self.inside.table.entries (sym c.frame_of.ensures.value ∙ c.in-Some.is) in rw (sym c.self.view_is) (rw (effects.held_is c.self.inside.store.items c.self.inside.table.entries c.args.n) (rw x.1 refl))

pub returns-in-Some-clause-first : goal.returns-in-Some-clause-first
returns-in-Some-clause-first c =
    let x = effects.at_frame c.args.n c.in-Some.frame c.self.inside.table.entries (sym c.frame_of.ensures.value ∙ c.in-Some.is) in rw (sym c.self.view_is) (rw c.promote.ensures.entries (rw (effects.shows_first c.self.inside.store.items c.self.inside.table.entries c.args.n c.in-Some.frame x.0 (x.1) c.self.inside.usable c.self.inside.index.frames c.self.invariant c.frame_of.ensures.valid.0) refl))

pub returns-in-Some-clause-sound : goal.returns-in-Some-clause-sound
returns-in-Some-clause-sound c =
    let x = effects.at_frame c.args.n c.in-Some.frame c.self.inside.table.entries (sym c.frame_of.ensures.value ∙ c.in-Some.is) in rw c.promote.ensures.entries (effects.sound c.self.inside.usable c.self.inside.index.frames c.self.inside.store.items _ (effects.tied_first c.self.inside.store.items c.self.inside.table.entries c.args.n c.in-Some.frame x.0 (x.1) c.self.inside.usable c.self.inside.index.frames c.self.invariant c.frame_of.ensures.valid.0))

pub returns-in-None-clause-value : goal.returns-in-None-clause-value
returns-in-None-clause-value c =
    rw (sym c.self.view_is) (rw (effects.held_is c.self.inside.store.items c.self.inside.table.entries c.args.n) (rw (effects.no_frame c.args.n c.self.inside.table.entries (sym c.frame_of.ensures.value ∙ c.in-None.is)) refl))

pub returns-in-None-clause-first : goal.returns-in-None-clause-first
returns-in-None-clause-first c =
    rw (sym c.self.view_is) (rw (sym (effects.nothing_first c.self.inside.store.items c.self.inside.table.entries c.args.n (effects.no_frame c.args.n c.self.inside.table.entries (sym c.frame_of.ensures.value ∙ c.in-None.is)))) refl)

pub returns-in-None-clause-sound : goal.returns-in-None-clause-sound
returns-in-None-clause-sound c =
    rw (sym c.self.view_is) (effects.sound c.self.inside.usable c.self.inside.index.frames c.self.inside.store.items c.self.inside.table.entries c.self.invariant)
