-- Numbers of a format by their place in a list of bytes, the most significant byte first.
use Rattle.std.specs.Prelude.{ℕ, ◌+◌, ◌*◌, List, slice_index}

-- the number in the byte at `at`
abbrev pub u8_at : List ℕ → ℕ → ℕ
u8_at bytes at = slice_index bytes at

-- the number in the two bytes from `at` on
abbrev pub u16_at : List ℕ → ℕ → ℕ
u16_at bytes at = slice_index bytes at * 256 + slice_index bytes (at + 1)

-- the number in the four bytes from `at` on
abbrev pub u32_at : List ℕ → ℕ → ℕ
u32_at bytes at = u16_at bytes at * 65536 + u16_at bytes (at + 2)
