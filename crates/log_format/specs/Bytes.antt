-- Numbers in a log: four bytes, the most significant first, or in the words of a checksum the least significant first.
use Rattle.std.specs.Prelude.{ℕ, ◌+◌, ◌*◌, Bool, if◌then◌else◌, List, slice_index}
-- the number in the four bytes from a place on
pub use Rattle.number_fields.specs.Fields.{u32_at}

-- the same, the least significant first
abbrev pub little_at : List ℕ → ℕ → ℕ
little_at bytes at =
    slice_index bytes at + 256 * (slice_index bytes (at + 1) + 256 * (slice_index bytes (at + 2) + 256 * slice_index bytes (at + 3)))

-- the word of a checksum from a place on, in the byte order that the log's magic says
abbrev pub word_at : Bool → List ℕ → ℕ → ℕ
word_at is_big bytes at = if is_big then u32_at bytes at else little_at bytes at
