use Rattle.pager.proofs.spilled.end_frames.Given as goal

abbrev pub ghost-end_batches : goal.ghost-end_batches
ghost-end_batches g a = g.start.base
