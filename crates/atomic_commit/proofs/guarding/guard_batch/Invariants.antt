use Rattle.atomic_commit.proofs.guarding.guard_batch.Given as goal

abbrev pub ghost-begin_segment : goal.ghost-begin_segment
ghost-begin_segment g a = g.base

abbrev pub ghost-keep_batch : goal.ghost-keep_batch
ghost-keep_batch g a = g.base

abbrev pub ghost-open : goal.ghost-open
ghost-open g a = g.base
