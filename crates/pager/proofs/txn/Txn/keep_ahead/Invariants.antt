use Rattle.pager.proofs.txn.Txn.keep_ahead.Given as goal

abbrev pub ghost-guard_ahead : goal.ghost-guard_ahead
ghost-guard_ahead g a = g.start.base
