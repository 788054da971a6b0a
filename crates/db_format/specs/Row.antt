-- Records as they are written (Database File Format, section 2.1): each varint is the shortest, an integer has the least of the
-- types 1 to 6 that holds it, and nothing follows the last value.
use Rattle.std.specs.Prelude.{◌≡◌, ℕ, ◌+◌, ◌*◌, ◌^◌, ◌<◌, nat_lt, ℤ, pos, negsuc, List, [], ◌∷◌, ◌++◌, length, flat_map, unwrap_or}
use Rattle.std.specs.List.{position_or_len}
use Rattle.std.specs.Int.{w64, cast_unsigned, bytes_high_first}
use Rattle.db_format.specs.Varint.{varint_bytes, varint_size}
use Rattle.db_format.specs.Value.{Datum}
use Rattle.db_format.specs.Value.Datum.{null, int, float, text, blob}
use Rattle.db_format.specs.Serial.{size_of}
use Rattle.db_format.specs.Record.{values_in}

-- how far an integer is from 0, or from -1 if it is negative
abbrev pub steps : ℤ → ℕ
steps (pos number) = number
steps (negsuc number) = number

-- the least of the types 1 to 6 that holds an integer: one with enough bits besides that of the sign
unfoldable pub integer_type : ℤ → ℕ
integer_type number = position_or_len (λ bits. nat_lt (steps number) (2 ^ bits)) (7 ∷ 15 ∷ 23 ∷ 31 ∷ 47 ∷ []) + 1

-- the type with which a value is written
abbrev pub type_of : Datum → ℕ
type_of null = 0
type_of (int number) = integer_type number
type_of (float bytes) = 7
type_of (text bytes) = 13 + 2 * length bytes
type_of (blob bytes) = 12 + 2 * length bytes

-- the bytes of a value in the body
abbrev pub datum_bytes : Datum → List ℕ
datum_bytes null = []
datum_bytes (int number) = bytes_high_first (size_of (integer_type number)) (cast_unsigned w64 number)
datum_bytes (float bytes) = bytes
datum_bytes (text bytes) = bytes
datum_bytes (blob bytes) = bytes

abbrev pub types_written : List Datum → List ℕ
types_written values = flat_map (λ value. varint_bytes (type_of value)) values

abbrev pub body_written : List Datum → List ℕ
body_written values = flat_map datum_bytes values

-- the length of a header with so many bytes of types: they and the shortest varint that holds the whole length
abbrev pub header_size : ℕ → ℕ
header_size types = types + varint_size (types + varint_size types)

-- the record of these values
abbrev pub record_bytes : List Datum → List ℕ
record_bytes values =
    varint_bytes (header_size (length (types_written values))) ++ types_written values ++ body_written values

-- the value of a column in memory, whose type fits 64 bits
abbrev pub IsStorable : Datum → Type 0
IsStorable null = Unit {0}
IsStorable (int number) = steps number < 2 ^ 63
IsStorable (float bytes) = length bytes ≡ 8
IsStorable (text bytes) = 13 + 2 * length bytes < 2 ^ 64
IsStorable (blob bytes) = 12 + 2 * length bytes < 2 ^ 64

abbrev pub AreStorable : List Datum → Type 0
AreStorable [] = Unit {0}
AreStorable (value ∷ values) = IsStorable value × AreStorable values

-- the values whose types and bytes these are
abbrev pub values_held : List ℕ → List ℕ → List Datum
values_held types body = unwrap_or (values_in types body) []

-- types and bytes as they are written
pub record ArePieces (types body : List ℕ) : Type 0 where
  pub types_are : types ≡ types_written (values_held types body)
  pub body_is : body ≡ body_written (values_held types body)
  pub storable : AreStorable (values_held types body)
