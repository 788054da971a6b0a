use Rattle.std.proofs.Common.{◌≡◌, ℕ, ◌+◌, ◌<◌, length, slice_index}
use Rattle.std.specs.Int.{w32, to_le_bytes}
use Rattle.hash_lanes.specs.Messages.{piece}
use Rattle.page_codec.proofs.side_by_side.numbers_at.Given as goal

abbrev pub invariant-numbers : goal.invariant-numbers
invariant-numbers l = record {
  sized : length l.out ≡ 32;
  done : (j : ℕ) → j < l.i → piece l.out 4 4 j ≡ to_le_bytes w32 (slice_index l.numbers (l.at + j));
}
