use Rattle.std.proofs.Common.{refl, replicate}
use Rattle.page_cache.proofs.Effects as effects
use Rattle.page_cache.proofs.cache.Cache.new.Goals as goal

pub invariant_of-result : goal.invariant_of-result
invariant_of-result c =
    rw (c.in-Ok.ensures) (rw (c.in-Ok-free_table.ensures) (effects.tied_blank c.args.usable c.args.frames c.in-Ok-new.index.frames c.in-Ok-new.ensures.empty c.in-Ok-new.ensures.room))

pub returns : goal.returns
returns c =
    rw (c.in-Ok.ensures) (rw (c.in-Ok-free_table.ensures) (rw (effects.shown_blank (replicate c.args.frames (replicate c.args.usable 0)) c.args.frames) (rw (effects.length_frames c.args.frames (replicate c.args.usable 0)) refl)))
