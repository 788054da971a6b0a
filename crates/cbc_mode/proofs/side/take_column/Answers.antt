use Rattle.std.proofs.Common.{ℕ, ◌+◌, ◌*◌, arith, refl}
use Rattle.aes_block.specs.Blocks.{block_at}
use Rattle.cbc_mode.specs.Halves.{block_bytes}
use Rattle.cbc_mode.proofs.ColumnFacts.{filled_more, filled_none}
use Rattle.cbc_mode.proofs.side.take_column.Goals as goal

pub rows-init : goal.rows-init
rows-init c = filled_none (λ (k : ℕ). block_at c.args.records.now (c.args.stride * k + c.args.j)) c.args.last.now c.requires.last

pub rows-preserved : goal.rows-preserved
rows-preserved c = rw c.put.ensures
    (filled_more (λ (k : ℕ). block_at c.args.records.now (c.args.stride * k + c.args.j)) c.args.last.now c.rows.last (block_bytes c.at.result) c.rows.i
    c.rows.invariant (omega arith) refl c.at.ensures)
