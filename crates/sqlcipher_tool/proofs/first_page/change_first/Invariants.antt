use Rattle.sqlcipher_tool.proofs.first_page.change_first.Given as goal

abbrev pub ghost-begin : goal.ghost-begin
ghost-begin g a = g.start

abbrev pub ghost-write_fields : goal.ghost-write_fields
ghost-write_fields g a = g.start

abbrev pub ghost-end : goal.ghost-end
ghost-end g a = g.start
