use Rattle.std.proofs.Common.{◌∙◌, sym, refl}
use Rattle.page_cache.proofs.Effects as effects
use Rattle.page_cache.proofs.cache.Cache.discard.Goals as goal

pub free-requires : goal.free-requires
free-requires c =
    let x = effects.at_frame c.args.n c.in-Some.frame c.self.inside.table.entries (sym c.frame_of.ensures.value ∙ c.in-Some.is) in effects.there c.self.inside.store.items c.self.inside.table.entries c.args.n c.in-Some.frame x.0 (x.1) c.self.inside.usable c.self.inside.index.frames c.self.invariant c.frame_of.ensures.valid.0

pub invariant_of-self : goal.invariant_of-self
invariant_of-self c =
    let x = effects.at_frame c.args.n c.in-Some.frame c.self.inside.table.entries (sym c.frame_of.ensures.value ∙ c.in-Some.is) in rw c.free.ensures (effects.tied_freed c.self.inside.store.items c.self.inside.table.entries c.args.n c.in-Some.frame x.0 (x.1) c.self.inside.usable c.self.inside.index.frames c.self.invariant c.frame_of.ensures.valid.0 c.forget.new.self.frames c.forget.ensures.named c.forget.ensures.room)

pub returns-in-Some-clause-value : goal.returns-in-Some-clause-value
returns-in-Some-clause-value c =
    let x = effects.at_frame c.args.n c.in-Some.frame c.self.inside.table.entries (sym c.frame_of.ensures.value ∙ c.in-Some.is) in rw (sym c.self.view_is) (rw (effects.held_is c.self.inside.store.items c.self.inside.table.entries c.args.n) (rw x.1 refl))

pub returns-in-Some-clause-gone : goal.returns-in-Some-clause-gone
returns-in-Some-clause-gone c =
    let x = effects.at_frame c.args.n c.in-Some.frame c.self.inside.table.entries (sym c.frame_of.ensures.value ∙ c.in-Some.is) in rw (sym c.self.view_is) (rw c.free.ensures (rw (effects.shows_freed c.self.inside.store.items c.self.inside.table.entries c.args.n c.in-Some.frame x.0 (x.1) c.self.inside.usable c.self.inside.index.frames c.self.invariant c.frame_of.ensures.valid.0) refl))

pub returns-in-None-clause-value : goal.returns-in-None-clause-value
returns-in-None-clause-value c =
    rw (sym c.self.view_is) (rw (effects.held_is c.self.inside.store.items c.self.inside.table.entries c.args.n) (rw (effects.no_frame c.args.n c.self.inside.table.entries (sym c.frame_of.ensures.value ∙ c.in-None.is)) refl))

pub returns-in-None-clause-gone : goal.returns-in-None-clause-gone
returns-in-None-clause-gone c =
    rw (sym c.self.view_is) (rw (sym (effects.nothing_gone c.self.inside.store.items c.self.inside.table.entries c.args.n (effects.no_frame c.args.n c.self.inside.table.entries (sym c.frame_of.ensures.value ∙ c.in-None.is)))) refl)
