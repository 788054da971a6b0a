use Rattle.page_plan.proofs.walk.keep_segment.Given as goal

abbrev pub ghost-keep_ahead : goal.ghost-keep_ahead
ghost-keep_ahead g a = g.start
