use Rattle.sqlcipher_tool.proofs.maps.free_maps.Given as goal

abbrev pub ghost-begin : goal.ghost-begin
ghost-begin g a = g.start

abbrev pub ghost-write_first : goal.ghost-write_first
ghost-write_first g a = g.start

abbrev pub ghost-put_trunks : goal.ghost-put_trunks
ghost-put_trunks g a = g.start

abbrev pub ghost-give_up : goal.ghost-give_up
ghost-give_up g a = g.start

abbrev pub ghost-end : goal.ghost-end
ghost-end g a = g.start
