use Rattle.sqlcipher_tool.proofs.maps.write_first.Given as goal

abbrev pub ghost-write_freelist : goal.ghost-write_freelist
ghost-write_freelist g a = g.start

abbrev pub ghost-write_fields : goal.ghost-write_fields
ghost-write_fields g a = g.start
