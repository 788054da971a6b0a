use Rattle.std.proofs.Common.{ap, Some, rules, ◌∙◌, sym, refl, [], length}
use Rattle.std.proofs.lemmas.List.{get_or_default}
use Rattle.page_cache.proofs.Effects as effects
use Rattle.page_cache.proofs.cache.Cache.get.Goals as goal

pub index-requires : goal.index-requires
index-requires c =
    let x = effects.at_frame c.args.n c.in-Some.frame c.self.inside.table.entries (sym c.frame_of.ensures.value ∙ c.in-Some.is) in
    let inside = effects.in_store c.self.inside.store.items c.self.inside.table.entries c.args.n c.in-Some.frame x.0 (x.1) c.self.inside.usable c.self.inside.index.frames c.self.invariant c.frame_of.ensures.valid.0 in
    search rules

pub returns-in-Some-clause-value : goal.returns-in-Some-clause-value
returns-in-Some-clause-value c =
    let x = effects.at_frame c.args.n c.in-Some.frame c.self.inside.table.entries (sym c.frame_of.ensures.value ∙ c.in-Some.is) in
    let inside = effects.in_store c.self.inside.store.items c.self.inside.table.entries c.args.n c.in-Some.frame x.0 (x.1) c.self.inside.usable c.self.inside.index.frames c.self.invariant c.frame_of.ensures.valid.0 in
    rw (sym c.self.view_is) (rw (effects.page_held c.self.inside.store.items c.self.inside.table.entries c.args.n c.in-Some.frame x.0 x.1) (ap Some (c.bytes.ensures ∙ (c.index.ensures ∙ get_or_default c.self.inside.store.items c.in-Some.frame c.index.result.now [] inside))))

pub returns-in-Some-clause-size : goal.returns-in-Some-clause-size
returns-in-Some-clause-size c =
    let x = effects.at_frame c.args.n c.in-Some.frame c.self.inside.table.entries (sym c.frame_of.ensures.value ∙ c.in-Some.is) in
    let inside = effects.in_store c.self.inside.store.items c.self.inside.table.entries c.args.n c.in-Some.frame x.0 (x.1) c.self.inside.usable c.self.inside.index.frames c.self.invariant c.frame_of.ensures.valid.0 in
    rw (sym c.self.view_is) (ap length (c.bytes.ensures ∙ (c.index.ensures ∙ get_or_default c.self.inside.store.items c.in-Some.frame c.index.result.now [] inside)) ∙ effects.right_size c.self.inside.store.items c.self.inside.table.entries c.args.n c.in-Some.frame x.0 (x.1) c.self.inside.usable c.self.inside.index.frames c.self.invariant c.frame_of.ensures.valid.0)

pub returns-in-None-clause-value : goal.returns-in-None-clause-value
returns-in-None-clause-value c =
    rw (sym c.self.view_is) (rw (effects.page_absent c.self.inside.store.items c.self.inside.table.entries c.args.n (effects.no_frame c.args.n c.self.inside.table.entries (sym c.frame_of.ensures.value ∙ c.in-None.is))) refl)
