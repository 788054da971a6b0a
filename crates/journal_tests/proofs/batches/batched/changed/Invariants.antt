use Rattle.std.specs.Prelude.{◌==◌}
use Rattle.std.proofs.Common.{replicate}
use Rattle.journal_tests.proofs.batches.batched.changed.Given as goal

abbrev pub ghost-change_in_batches : goal.ghost-change_in_batches
ghost-change_in_batches a = record { size = 512; pages = 6; start = replicate 3072 1; counts = λ n. n == 3072 }
