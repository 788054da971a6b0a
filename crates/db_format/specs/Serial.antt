-- Serial types (Database File Format, section 2.1). The type of a column says how many bytes of the body are its own, and
-- what they mean.
--
-- | type             | bytes           | value                                     |
-- | 0                | 0               | NULL                                      |
-- | 1, 2, 3, 4, 5, 6 | 1, 2, 3, 4, 6, 8 | integer, big-endian in two's complement  |
-- | 7                | 8               | float, kept as its eight bytes            |
-- | 8, 9             | 0               | the integers 0 and 1                      |
-- | 10, 11           |                 | reserved                                  |
-- | even, from 12 on | (type - 12) / 2 | bytes                                     |
-- | odd, from 13 on  | (type - 13) / 2 | text                                      |
use Rattle.std.specs.Prelude.{ℕ, ◌-◌, ◌+◌, ◌*◌, ◌/◌, ◌%◌, ◌^◌, ◌==◌, ◌&&◌, ℤ, pos, negsuc, Bool, not, nat_lt, List, length, fold, if◌then◌else◌}
use Rattle.db_format.specs.Value.{Datum}
use Rattle.db_format.specs.Value.Datum.{null, int, float, text, blob}

-- a type that is not reserved
abbrev pub is_type : ℕ → Bool
is_type serial = not (serial == 10) && not (serial == 11)

-- how many bytes of the body a value of this type takes
unfoldable pub size_of : ℕ → ℕ
size_of serial =
    if nat_lt serial 5 then serial
    else (if serial == 5 then 6
    else (if nat_lt serial 8 then 8
    else (if nat_lt serial 12 then 0 else (serial - 12) / 2)))

-- the big-endian number of these bytes
abbrev pub big_endian : List ℕ → ℕ
big_endian bytes = fold (λ high byte. high * 256 + byte) 0 bytes

-- a number of so many bits, read in two's complement
abbrev pub signed : ℕ → ℕ → ℤ
signed bits number = if nat_lt number (2 ^ (bits - 1)) then pos number else negsuc (2 ^ bits - 1 - number)

-- what the bytes of a value of this type mean
unfoldable pub value_of : ℕ → List ℕ → Datum
value_of serial bytes =
    if serial == 0 then null
    else (if nat_lt serial 7 then int (signed (8 * length bytes) (big_endian bytes))
    else (if serial == 7 then float bytes
    else (if serial == 8 then int (pos 0)
    else (if serial == 9 then int (pos 1)
    else (if serial % 2 == 0 then blob bytes else text bytes)))))
