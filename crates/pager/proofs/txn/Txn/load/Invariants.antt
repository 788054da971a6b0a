use Rattle.pager.proofs.txn.Txn.load.Given as goal

abbrev pub ghost-read_in : goal.ghost-read_in
ghost-read_in g a = g.start
