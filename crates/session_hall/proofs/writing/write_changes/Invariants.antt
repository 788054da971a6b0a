use Rattle.session_hall.proofs.writing.write_changes.Given as goal

abbrev pub ghost-write_plan : goal.ghost-write_plan
ghost-write_plan g a = g.start
