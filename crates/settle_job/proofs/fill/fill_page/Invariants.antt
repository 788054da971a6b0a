use Rattle.settle_job.proofs.fill.fill_page.Given as goal

abbrev pub ghost-page_zero : goal.ghost-page_zero
ghost-page_zero g a = g.start

abbrev pub ghost-write : goal.ghost-write
ghost-write g a = g.start
