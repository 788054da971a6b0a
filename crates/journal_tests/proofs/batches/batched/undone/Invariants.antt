use Rattle.std.specs.Prelude.{◌==◌}
use Rattle.std.proofs.Common.{replicate}
use Rattle.journal_tests.proofs.batches.batched.undone.Given as goal

abbrev pub ghost-undo_batch : goal.ghost-undo_batch
ghost-undo_batch a = record { size = 512; pages = 6; start = replicate 3072 1; counts = λ n. n == 3072 }
