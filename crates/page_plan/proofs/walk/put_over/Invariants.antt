use Rattle.page_plan.proofs.walk.put_over.Given as goal

abbrev pub ghost-write : goal.ghost-write
ghost-write g a = g.start

abbrev pub ghost-put_over_zeros : goal.ghost-put_over_zeros
ghost-put_over_zeros g a = g.start
