use Rattle.std.proofs.Common.{◌∙◌, ℕ, List, sym, subst}
use Rattle.pager.specs.Changed.{AreListed}
use Rattle.pager.proofs.ChangedLemmas.{all_listed}
use Rattle.pager.proofs.changed.ChangedPages.free.Goals as goal

pub release-requires : goal.release-requires
release-requires c = subst (λ (ms : List ℕ). AreListed ms c.self.inside.cache.held) (sym c.deref.ensures.value)
    (all_listed c.self.inside.numbers.items c.self.inside.cache.held (λ m is. c.self.invariant.0.named m ∙ is))
