use Rattle.sqlcipher_tool.proofs.first_page.write_bytes.Given as goal

abbrev pub ghost-write : goal.ghost-write
ghost-write g a = g.start
