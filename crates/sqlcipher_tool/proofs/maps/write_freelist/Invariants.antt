use Rattle.sqlcipher_tool.proofs.maps.write_freelist.Given as goal

abbrev pub ghost-write_bytes : goal.ghost-write_bytes
ghost-write_bytes g a = g.start
