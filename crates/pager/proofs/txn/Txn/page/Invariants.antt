use Rattle.pager.proofs.txn.Txn.page.Given as goal

abbrev pub ghost-load : goal.ghost-load
ghost-load g a = g.start
