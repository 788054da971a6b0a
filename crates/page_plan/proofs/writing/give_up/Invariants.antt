use Rattle.page_plan.proofs.writing.give_up.Given as goal

abbrev pub ghost-abandon : goal.ghost-abandon
ghost-abandon g a = g.start
