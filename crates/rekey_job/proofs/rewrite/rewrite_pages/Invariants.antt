use Rattle.rekey_job.proofs.rewrite.rewrite_pages.Given as goal

abbrev pub ghost-write_plan : goal.ghost-write_plan
ghost-write_plan g a = g.start
