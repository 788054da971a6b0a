use Rattle.pager.proofs.txn.Txn.make_room.Given as goal

abbrev pub ghost-spill : goal.ghost-spill
ghost-spill g a = g.start
