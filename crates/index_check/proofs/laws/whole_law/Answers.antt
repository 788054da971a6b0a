use Rattle.index_check.proofs.CountLemmas.{counts_whole, whole_counts}
use Rattle.index_check.proofs.laws.whole_law.Goals as goal

pub returns-clause-whole : goal.returns-clause-whole
returns-clause-whole c = counts_whole

pub returns-clause-only : goal.returns-clause-only
returns-clause-only c = whole_counts
