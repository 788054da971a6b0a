use Rattle.page_plan.proofs.walk.put_next.Given as goal

abbrev pub ghost-put_planned : goal.ghost-put_planned
ghost-put_planned g a = g.start

abbrev pub ghost-keep_segment : goal.ghost-keep_segment
ghost-keep_segment g a = g.start
