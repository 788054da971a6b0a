-- The bytes of a row.
use Rattle.std.proofs.Common.{◌≡◌, ℕ, ◌<◌, slice_index}
use Rattle.std.proofs.lemmas.Nat.Bits.{bit_at-lt}
use Rattle.aes_lanes.specs.Bits.{bit_in, bits_of}
use Rattle.aes_lanes.specs.Planes.{byte_in, row_bits}
use Rattle.aes_lanes.specs.declared.lanes.Row.{Row}
use Rattle.aes_lanes.proofs.BitFacts.{bits_of-number, number-lt}

pub bits_of-byte_in : (q : Row) (c j : ℕ) → bits_of (byte_in q c j) ≡ row_bits q c j
bits_of-byte_in q c j = bits_of-number (bit_in q.p0 c j) (bit_in q.p1 c j) (bit_in q.p2 c j) (bit_in q.p3 c j) (bit_in q.p4 c j) (bit_in q.p5 c j)
    (bit_in q.p6 c j) (bit_in q.p7 c j) (bit_at-lt (slice_index q.p0 c) j) (bit_at-lt (slice_index q.p1 c) j) (bit_at-lt (slice_index q.p2 c) j)
    (bit_at-lt (slice_index q.p3 c) j) (bit_at-lt (slice_index q.p4 c) j) (bit_at-lt (slice_index q.p5 c) j) (bit_at-lt (slice_index q.p6 c) j)
    (bit_at-lt (slice_index q.p7 c) j)

pub byte_in-lt : (q : Row) (c j : ℕ) → byte_in q c j < 256
byte_in-lt q c j = number-lt (bit_in q.p0 c j) (bit_in q.p1 c j) (bit_in q.p2 c j) (bit_in q.p3 c j) (bit_in q.p4 c j) (bit_in q.p5 c j)
    (bit_in q.p6 c j) (bit_in q.p7 c j) (bit_at-lt (slice_index q.p0 c) j) (bit_at-lt (slice_index q.p1 c) j) (bit_at-lt (slice_index q.p2 c) j)
    (bit_at-lt (slice_index q.p3 c) j) (bit_at-lt (slice_index q.p4 c) j) (bit_at-lt (slice_index q.p5 c) j) (bit_at-lt (slice_index q.p6 c) j)
    (bit_at-lt (slice_index q.p7 c) j)
