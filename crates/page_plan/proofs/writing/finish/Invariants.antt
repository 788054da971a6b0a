use Rattle.page_plan.proofs.writing.finish.Given as goal

abbrev pub ghost-end : goal.ghost-end
ghost-end g a = g.start
