use Rattle.pager.proofs.txn.Txn.end.Given as goal

abbrev pub ghost-end_frames : goal.ghost-end_frames
ghost-end_frames g a = g.start
