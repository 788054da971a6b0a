use Rattle.std.proofs.Common.{sym}
use Rattle.page_cache.proofs.Effects as effects
use Rattle.page_cache.proofs.cache.Cache.is_held.Goals as goal

pub returns-clause-value : goal.returns-clause-value
returns-clause-value c =
    rw (sym c.self.view_is) (rw (effects.held_is c.self.inside.store.items c.self.inside.table.entries c.args.n) (rw (effects.held_by c.args.n c.self.inside.table.entries) (rw (sym c.frame_of.ensures.value) c.is_some.ensures)))

pub returns-clause-sound : goal.returns-clause-sound
returns-clause-sound c =
    rw (sym c.self.view_is) (effects.sound c.self.inside.usable c.self.inside.index.frames c.self.inside.store.items c.self.inside.table.entries c.self.invariant)
