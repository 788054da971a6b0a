-- How long a cell is.
use Rattle.std.specs.Prelude.{ℕ, ◌+◌, ℤ, nat_le, if◌then◌else◌}
use Rattle.std.specs.Int.{w64, cast_unsigned}
use Rattle.db_format.specs.Varint.{varint_size}

-- the length of the cell of a row with so many bytes, so many of them local
abbrev pub row_len : ℕ → ℤ → ℕ → ℕ
row_len length rowid local = varint_size length + (varint_size (cast_unsigned w64 rowid) + (local + (if nat_le length local then 0 else 4)))
