use Rattle.pager.proofs.txn.Txn.spill.Given as goal

abbrev pub ghost-write_frames : goal.ghost-write_frames
ghost-write_frames g a = g.start
