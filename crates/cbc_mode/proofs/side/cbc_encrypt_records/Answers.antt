use Rattle.std.proofs.Common.{arith}
use Rattle.aes_lanes.specs.Blocks.{block_in}
use Rattle.cbc_mode.proofs.ColumnFacts.{columns_all, columns_more, columns_none}
use Rattle.cbc_mode.proofs.side.cbc_encrypt_records.Goals as goal

pub columns-init : goal.columns-init
columns-init c = columns_none c.args.aes.now c.args.text c.args.stride c.args.count c.args.records.now _ c.requires.size c.requires.iv
    c.take_column.ensures.last c.take_column.ensures.blocks

pub columns-preserved : goal.columns-preserved
columns-preserved c = columns_more c.args.aes.now c.args.text c.args.stride c.args.count c.args.records.now c.columns.records c.columns.last
    _ _ _ (block_in c.encrypt_blocks-blocks.result) c.columns.j c.requires.size (omega arith) c.requires.iv c.columns.invariant
    c.add_column.ensures.blocks (λ i hi. c.encrypt_blocks-blocks.ensures i (omega arith))
    c.put_column.ensures.size c.put_column.ensures.last c.put_column.ensures.kept c.put_column.ensures.put c.put_column.ensures.others

pub returns-clause-value : goal.returns-clause-value
returns-clause-value c = columns_all c.args.aes.now c.args.text c.args.stride c.args.count c.args.records.now c.columns.records _ c.columns.j
    c.requires.size c.requires.iv (omega arith) c.columns.invariant
