use Rattle.aes_lanes.specs.Blocks.{block_in}
use Rattle.cbc_mode.proofs.ColumnFacts.{ColumnUpTo, Filled}
use Rattle.cbc_mode.proofs.side.put_column.Given as goal

abbrev pub invariant-rows : goal.invariant-rows
invariant-rows l = Filled (block_in l.«blocks») l.fn.last l.last l.i × ColumnUpTo (block_in l.«blocks») l.stride l.j l.fn.records l.records l.i
