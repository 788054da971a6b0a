use Rattle.std.proofs.Common.{◌≡◌, map}
use Rattle.std.specs.List.{range_with_len}
use Rattle.db_maker.specs.Rows.{data_byte}
use Rattle.db_maker.proofs.rows.data_bytes.Given as goal

-- the bytes so far
abbrev pub invariant-loop-k : goal.invariant-loop-k
invariant-loop-k l = l.data.items ≡ map (data_byte l.i) (range_with_len 0 l.k)
