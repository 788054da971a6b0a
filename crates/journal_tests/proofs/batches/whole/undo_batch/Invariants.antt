use Rattle.journal_tests.proofs.batches.whole.undo_batch.Given as goal

abbrev pub ghost-write_batch : goal.ghost-write_batch
ghost-write_batch g a = g.base

abbrev pub ghost-undo_batches : goal.ghost-undo_batches
ghost-undo_batches g a = g.base
