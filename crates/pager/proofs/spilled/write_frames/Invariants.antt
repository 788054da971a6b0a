use Rattle.pager.proofs.spilled.write_frames.Given as goal

abbrev pub ghost-write_batch : goal.ghost-write_batch
ghost-write_batch g a = g.start.base
