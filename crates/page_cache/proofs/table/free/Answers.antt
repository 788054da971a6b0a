use Rattle.std.proofs.Common.{ap, ◌∙◌}
use Rattle.lru.specs.LruCache.{lru_cache}
use Rattle.page_cache.proofs.Effects.{demoted_free}
use Rattle.page_cache.proofs.table.free.Goals as goal

pub returns : goal.returns
returns c = c.demote.ensures.entries ∙ rw c.set_held.ensures (ap (λ es. lru_cache es c.args.table.now.cap) (demoted_free c.args.frame c.args.table.now.entries c.requires))
