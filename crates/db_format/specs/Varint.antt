-- Variable-length integers (Database File Format, section 1.6).
--
-- A varint is the bytes up to the first whose high bit is clear, and nine where none of eight has it clear. The low seven
-- bits of each of the first eight bytes and all eight bits of the ninth make the number, the most significant first.
use Rattle.std.specs.Prelude.{◌≡◌, ℕ, zero, suc, ◌+◌, ◌-◌, ◌*◌, ◌/◌, ◌%◌, ◌^◌, ◌==◌, nat_lt, nat_le, List, [], ◌∷◌, ◌++◌, length, take, fold, Option, Some, None, if◌then◌else◌}
use Rattle.std.specs.List.{position_or_len, range_with_len}
use Rattle.db_format.specs.Bytes.{u8_at}

-- how many bytes the varint at the start of these takes; more than there are where they end within it
abbrev pub varint_len : List ℕ → ℕ
varint_len bytes = position_or_len (λ byte. nat_lt byte 128) (take 8 bytes) + 1

-- the low seven bits of each byte, as one number
abbrev pub seven_bits : List ℕ → ℕ
seven_bits bytes = fold (λ high byte. high * 128 + byte % 128) 0 bytes

-- the number that a whole varint spells
abbrev pub spelled : List ℕ → ℕ
spelled bytes = if length bytes == 9 then seven_bits (take 8 bytes) * 256 + u8_at bytes 8 else seven_bits bytes

-- the varint at the start of these bytes: its number and how many bytes it takes; none where they end within it
unfoldable pub varint : List ℕ → Option (ℕ × ℕ)
varint bytes =
    if nat_le (varint_len bytes) (length bytes) then Some (spelled (take (varint_len bytes) bytes), varint_len bytes) else None

-- the bytes are one whole varint, of this number
abbrev pub IsVarintOf : List ℕ → ℕ → Type 0
IsVarintOf bytes number = varint bytes ≡ Some (number, length bytes)

-- how many bytes the shortest spelling takes: the least count from 1 to 8 whose sevens of bits hold the number, and else 9
unfoldable pub varint_size : ℕ → ℕ
varint_size number = position_or_len (λ count. nat_lt number (128 ^ count)) (range_with_len 1 8) + 1

-- the lowest sevens of bits, as many as there are bytes, each with the high bit that says that more follows
abbrev pub leading_bytes : ℕ → ℕ → List ℕ
leading_bytes zero number = []
leading_bytes (suc count) number = leading_bytes count (number / 128) ++ (128 + number % 128) ∷ []

-- how many values the last byte of so many has: the ninth gives eight bits, any other seven
abbrev pub last_values : ℕ → ℕ
last_values size = if size == 9 then 256 else 128

-- the shortest spelling of a number
unfoldable pub varint_bytes : ℕ → List ℕ
varint_bytes number =
    let size = varint_size number in
    leading_bytes (size - 1) (number / last_values size) ++ (number % last_values size) ∷ []
