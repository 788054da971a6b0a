use Rattle.pager.proofs.txn.Txn.write.Given as goal

abbrev pub ghost-take_in : goal.ghost-take_in
ghost-take_in g a = g.start
