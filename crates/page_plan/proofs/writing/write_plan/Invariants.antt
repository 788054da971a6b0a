use Rattle.page_plan.proofs.writing.write_plan.Given as goal

abbrev pub ghost-begin : goal.ghost-begin
ghost-begin g a = g.start

abbrev pub ghost-write_all : goal.ghost-write_all
ghost-write_all g a = g.start
