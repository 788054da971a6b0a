use Rattle.page_plan.proofs.walk.put_over_zeros.Given as goal

abbrev pub ghost-page_zero : goal.ghost-page_zero
ghost-page_zero g a = g.start

abbrev pub ghost-write : goal.ghost-write
ghost-write g a = g.start
