use Rattle.pager.proofs.txn.Txn.take_in.Given as goal

abbrev pub ghost-read_in : goal.ghost-read_in
ghost-read_in g a = g.start

abbrev pub ghost-make_room : goal.ghost-make_room
ghost-make_room g a = g.start
