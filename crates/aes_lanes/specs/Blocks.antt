-- Blocks in a text of 1024 bytes, and in 32 vectors.
use Rattle.std.specs.Prelude.{ℕ, ◌+◌, ◌*◌, ◌/◌, ◌%◌, ◌^◌, List, [], ◌∷◌, ◌++◌, slice_index, slice_index_or}
use Rattle.std.specs.Int.{bit_at}

-- the bits of column c of block i, and above them those of block i + 32
abbrev pub word_bits : List ℕ → ℕ → ℕ → ℕ → ℕ
word_bits text c i k = bit_at (slice_index text (512 * (k % 64 / 8 / 4) + (16 * i + 4 * c) + k % 64 / 8 % 4)) (k % 64 % 8)

-- the four bytes from bit s on
abbrev pub word_bytes : ℕ → ℕ → List ℕ
word_bytes x s = x / 2 ^ s % 256 ∷ x / 2 ^ (s + 8) % 256 ∷ x / 2 ^ (s + 16) % 256 ∷ x / 2 ^ (s + 24) % 256 ∷ []

-- block j of 32 vectors: blocks from 32 on are in the upper halves of the lanes
abbrev pub block_in : List (List ℕ) → ℕ → List ℕ
block_in vs j =
    word_bytes (slice_index (slice_index_or vs (j % 32) []) 0) (j / 32 * 32) ++ word_bytes (slice_index (slice_index_or vs (j % 32) []) 1) (j / 32 * 32)
    ++ word_bytes (slice_index (slice_index_or vs (j % 32) []) 2) (j / 32 * 32) ++ word_bytes (slice_index (slice_index_or vs (j % 32) []) 3) (j / 32 * 32)
