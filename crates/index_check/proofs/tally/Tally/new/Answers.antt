use Rattle.std.proofs.Common.{refl, ap}
use Rattle.index_check.proofs.tally.Tally.new.Goals as goal

pub returns-in-Ok-clause-none : goal.returns-in-Ok-clause-none
returns-in-Ok-clause-none c = record {
  entries_are = refl;
  nameless_are = refl;
  strangers_are = c.none.ensures;
  met_are = λ k d l. ap (λ t. t k) c.in-Ok.ensures.none;
}
