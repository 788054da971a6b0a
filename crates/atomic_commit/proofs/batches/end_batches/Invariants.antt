use Rattle.atomic_commit.proofs.batches.end_batches.Given as goal

abbrev pub ghost-write_batch : goal.ghost-write_batch
ghost-write_batch g a = g.base

abbrev pub ghost-finish : goal.ghost-finish
ghost-finish g a = g.base
