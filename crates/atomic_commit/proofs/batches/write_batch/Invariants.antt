use Rattle.atomic_commit.proofs.batches.write_batch.Given as goal

abbrev pub ghost-guard_batch : goal.ghost-guard_batch
ghost-guard_batch g a = g.base

abbrev pub ghost-put_batch : goal.ghost-put_batch
ghost-put_batch g a = g.base
