use Rattle.fresh_file.proofs.FreshLaws.{none_taken}
use Rattle.fresh_file.proofs.state.FreshState.empty.Goals as goal

pub invariant_of-result-clause-put_taken : goal.invariant_of-result-clause-put_taken
invariant_of-result-clause-put_taken c = none_taken _ _ c.in_ok-put.ensures.none
