use Rattle.pager.proofs.txn.Txn.page_zero.Given as goal

abbrev pub ghost-make_room : goal.ghost-make_room
ghost-make_room g a = g.start
