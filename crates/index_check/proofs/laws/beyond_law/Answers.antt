use Rattle.index_check.proofs.CountLemmas.{surplus_is}
use Rattle.index_check.proofs.laws.beyond_law.Goals as goal

pub returns : goal.returns
returns c = surplus_is
