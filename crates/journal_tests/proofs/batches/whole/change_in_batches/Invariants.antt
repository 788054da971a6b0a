use Rattle.journal_tests.proofs.batches.whole.change_in_batches.Given as goal

abbrev pub ghost-write_batch : goal.ghost-write_batch
ghost-write_batch g a = g.base

abbrev pub ghost-end_batches : goal.ghost-end_batches
ghost-end_batches g a = g.base
