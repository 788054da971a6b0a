use Rattle.atomic_commit.proofs.steps.abandon.Given as goal

abbrev pub ghost-close : goal.ghost-close
ghost-close g a = g.base
