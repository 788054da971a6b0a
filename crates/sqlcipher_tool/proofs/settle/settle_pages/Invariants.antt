use Rattle.sqlcipher_tool.proofs.settle.settle_pages.Given as goal

abbrev pub ghost-change_first : goal.ghost-change_first
ghost-change_first g a = g.start

abbrev pub ghost-free_maps : goal.ghost-free_maps
ghost-free_maps g a = g.start
