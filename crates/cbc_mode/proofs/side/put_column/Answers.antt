use Rattle.std.proofs.Common.{◌≡◌, ◌≤◌, ℕ, List, ◌+◌, ◌*◌, ap, ◌∙◌, length, arith, refl}
use Rattle.aes_lanes.specs.Blocks.{block_in}
use Rattle.cbc_mode.specs.Halves.{block_bytes}
use Rattle.cbc_mode.proofs.ColumnFacts.{column_more, column_none, filled_more, filled_none, in_records}
use Rattle.cbc_mode.proofs.LoopFacts.{alone}
use Rattle.cbc_mode.proofs.side.put_column.Goals as goal

pub rows-init : goal.rows-init
rows-init c = (
  filled_none (block_in c.args.blocks.now) c.args.last.now c.requires.last,
  column_none (block_in c.args.blocks.now) c.args.stride c.args.j c.args.records.now,
)

pub rows-preserved : goal.rows-preserved
rows-preserved c =
    let given : List ℕ = block_bytes c.at-block.result in
    let is : given ≡ block_in c.args.blocks.now c.rows.i =
    c.at-block.ensures ∙ alone c.block_of-bytes.result (ap length c.block_of-bytes.ensures) ∙ c.block_of-bytes.ensures in
    let within : 16 * (c.args.stride * c.rows.i + c.args.j) + 16 ≤ length c.rows.records = omega
    (arith, in_records c.args.stride c.args.count c.rows.i c.args.j c.requires.column (omega arith), c.rows.invariant.1.size) in
    rw (c.put.ensures, c.put-in-rows.ensures) (
      filled_more (block_in c.args.blocks.now) c.args.last.now c.rows.last given c.rows.i c.rows.invariant.0 (omega arith) refl is,
      column_more (block_in c.args.blocks.now) c.args.stride c.args.j c.args.records.now c.rows.records given c.rows.i
          c.rows.invariant.1 c.requires.column within refl is,
    )

pub overflow_add-stride : goal.overflow_add-stride
overflow_add-stride c = omega (arith, in_records c.args.stride c.args.count c.rows.i c.args.j c.requires.column (omega arith), c.rows.invariant.1.size)
