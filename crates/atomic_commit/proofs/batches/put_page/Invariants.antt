use Rattle.atomic_commit.proofs.batches.put_page.Given as goal

abbrev pub ghost-write_page : goal.ghost-write_page
ghost-write_page g a = g.base
