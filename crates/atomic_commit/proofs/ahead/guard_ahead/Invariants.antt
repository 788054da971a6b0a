use Rattle.atomic_commit.proofs.ahead.guard_ahead.Given as goal

abbrev pub ghost-guard_batch : goal.ghost-guard_batch
ghost-guard_batch g a = g.base
