use Rattle.atomic_commit.proofs.guarding.begin_segment.Given as goal

abbrev pub ghost-start : goal.ghost-start
ghost-start g a = g.base

abbrev pub ghost-next : goal.ghost-next
ghost-next g a = g.base
