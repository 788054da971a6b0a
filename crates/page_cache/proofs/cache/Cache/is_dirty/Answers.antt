use Rattle.std.proofs.Common.{◌∙◌, sym, refl}
use Rattle.page_cache.proofs.Effects as effects
use Rattle.page_cache.proofs.cache.Cache.is_dirty.Goals as goal

pub returns-in-Some : goal.returns-in-Some
returns-in-Some c =
    rw (sym c.self.view_is) (rw (effects.page_held c.self.inside.store.items c.self.inside.table.entries c.args.n c.in-Some._frame c.in-Some.held (sym c.entry_of.ensures.value ∙ c.in-Some.is)) refl)

pub returns-in-None : goal.returns-in-None
returns-in-None c =
    rw (sym c.self.view_is) (rw (effects.page_absent c.self.inside.store.items c.self.inside.table.entries c.args.n (sym c.entry_of.ensures.value ∙ c.in-None.is)) refl)
