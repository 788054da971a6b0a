use Rattle.pager.proofs.txn.Txn.abandon.Given as goal

abbrev pub ghost-undo_batches : goal.ghost-undo_batches
ghost-undo_batches g a = g.start.base
