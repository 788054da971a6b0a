use Rattle.sqlcipher_tool.proofs.maps.give_up.Given as goal

abbrev pub ghost-abandon : goal.ghost-abandon
ghost-abandon g a = g.start
