use Rattle.std.proofs.Common.{ℕ, ◌+◌, ◌*◌, ◌∙◌, arith, refl}
use Rattle.aes_block.specs.Aes.{xor_bytes}
use Rattle.aes_block.specs.Blocks.{block_at}
use Rattle.cbc_mode.specs.Halves.{block_bytes}
use Rattle.cbc_mode.proofs.ColumnFacts.{filled_more, filled_none}
use Rattle.cbc_mode.proofs.side.add_column.Goals as goal

pub rows-init : goal.rows-init
rows-init c = filled_none (λ (k : ℕ). xor_bytes (block_at c.args.records.now (c.args.stride * k + c.args.j)) (block_at c.args.last.now k))
    c.args.last.now c.requires.last

pub rows-preserved : goal.rows-preserved
rows-preserved c = rw c.put.ensures
    (filled_more (λ (k : ℕ). xor_bytes (block_at c.args.records.now (c.args.stride * k + c.args.j)) (block_at c.args.last.now k))
    c.args.last.now c.rows.last (block_bytes c.xor-sum.result) c.rows.i c.rows.invariant (omega arith) refl
    (c.xor-sum.ensures ∙ (λ n. xor_bytes (c.at.ensures n) ((c.at-in-rows.ensures ∙ c.rows.invariant.left c.rows.i (omega arith) (omega arith)) n))))
