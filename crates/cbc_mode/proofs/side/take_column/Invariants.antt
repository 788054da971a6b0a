use Rattle.std.proofs.Common.{ℕ, ◌+◌, ◌*◌}
use Rattle.aes_block.specs.Blocks.{block_at}
use Rattle.cbc_mode.proofs.ColumnFacts.{Filled}
use Rattle.cbc_mode.proofs.side.take_column.Given as goal

abbrev pub invariant-rows : goal.invariant-rows
invariant-rows l = Filled (λ (k : ℕ). block_at l.records (l.stride * k + l.j)) l.fn.last l.last l.i
