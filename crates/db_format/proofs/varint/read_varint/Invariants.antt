use Rattle.std.proofs.Common.{◌≡◌, ℕ, ◌^◌, ◌<◌, ◌≤◌, get_or, take}
use Rattle.db_format.specs.Varint.{seven_bits}
use Rattle.db_format.proofs.varint.read_varint.Given as goal

abbrev pub invariant-loop-at : goal.invariant-loop-at
invariant-loop-at l = record {
  few : l.at ≤ 8;
  value : l.high ≡ seven_bits (take l.at l.bytes);
  small : l.high < 128 ^ l.at;
  more : (k : ℕ) → k < l.at → 128 ≤ get_or l.bytes k 0;
}
