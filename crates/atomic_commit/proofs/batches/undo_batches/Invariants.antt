use Rattle.atomic_commit.proofs.batches.undo_batches.Given as goal

abbrev pub ghost-abandon : goal.ghost-abandon
ghost-abandon g a = g.base
