use Rattle.page_plan.proofs.walk.put_planned.Given as goal

abbrev pub ghost-put_over : goal.ghost-put_over
ghost-put_over g a = g.start
