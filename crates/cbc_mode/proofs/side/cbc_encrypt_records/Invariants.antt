use Rattle.cbc_mode.proofs.ColumnFacts.{ColumnsUpTo}
use Rattle.cbc_mode.proofs.side.cbc_encrypt_records.Given as goal

abbrev pub invariant-columns : goal.invariant-columns
invariant-columns l = ColumnsUpTo l.aes l.text l.stride l.count l.fn.records l.records l.last l.j
