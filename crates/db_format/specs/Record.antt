-- Records (Database File Format, section 2.1): a header and a body. The header is a varint of its own length in bytes, itself
-- counted, and a varint for the serial type of each column; the body has the bytes of the values, in the same order. Bytes
-- after the last value are no part of the record.
use Rattle.std.specs.Prelude.{IsTrue, ◌≡◌, ℕ, zero, suc, ◌+◌, ◌^◌, ◌&&◌, List, [], ◌∷◌, ◌++◌, length, map, flat_map, take, drop, Option, Some, None, nat_le, if◌then◌else◌}
use Rattle.std.specs.Option.{option_map, option_and_then}
use Rattle.db_format.specs.Varint.{IsVarintOf, varint}
use Rattle.db_format.specs.Value.{Datum}
use Rattle.db_format.specs.Serial.{is_type, size_of, value_of}

-- the longest payload that is read, in bytes
abbrev pub longest_payload : ℕ
longest_payload = 2 ^ 30

-- a column as a record has it: the spelling of its serial type in the header, the type, and its bytes in the body
pub record Column : Type 0 where
  pub spelling : List ℕ
  pub serial : ℕ
  pub bytes : List ℕ

-- the spelling is one whole varint of a type that has values, and the bytes are as many as the type says
pub record IsColumn (column : Column) : Type 0 where
  pub spelled : IsVarintOf column.spelling column.serial
  pub typed : IsTrue (is_type column.serial)
  pub sized : size_of column.serial ≡ length column.bytes

abbrev pub AreColumns : List Column → Type 0
AreColumns [] = Unit {0}
AreColumns (column ∷ columns) = IsColumn column × AreColumns columns

-- the header's types, the bytes of the values, and the values
abbrev pub types_of : List Column → List ℕ
types_of columns = flat_map (λ column. column.spelling) columns

abbrev pub body_of : List Column → List ℕ
body_of columns = flat_map (λ column. column.bytes) columns

abbrev pub values_of : List Column → List Datum
values_of columns = map (λ column. value_of column.serial column.bytes) columns

-- the payload is a record of these values: the header's length, the types, the body, and what is no part of it
pub record IsRecordOf (payload : List ℕ) (values : List Datum) : Type 0 where
  pub head : List ℕ
  pub columns : List Column
  pub rest : List ℕ
  pub parts : payload ≡ head ++ types_of columns ++ body_of columns ++ rest
  pub counted : IsVarintOf head (length head + length (types_of columns))
  pub each : AreColumns columns
  pub holds : values_of columns ≡ values

-- ---- the same read off the bytes

-- a value of this type at the start of the body, before the later ones; none where the type is reserved or the body too short
abbrev pub first_value : ℕ → List ℕ → Option (List Datum) → Option (List Datum)
first_value serial body later =
    if is_type serial && nat_le (size_of serial) (length body)
    then option_map (λ values. value_of serial (take (size_of serial) body) ∷ values) later
    else None

-- the values whose types stand in `types`, up to its end, and whose bytes stand in `body`; at most `most` of them
abbrev pub values_within : ℕ → List ℕ → List ℕ → Option (List Datum)
values_within most [] body = Some []
values_within zero (byte ∷ types) body = None
values_within (suc most) (byte ∷ types) body =
    option_and_then
    (λ first. first_value first.0 body (values_within most (drop first.1 (byte ∷ types)) (drop (size_of first.0) body)))
    (varint (byte ∷ types))

unfoldable pub values_in : List ℕ → List ℕ → Option (List Datum)
values_in types body = values_within (length types) types body

-- the values after a header of this length, whose own length takes so many bytes; none where it is shorter than that or longer
-- than the payload
abbrev pub values_after : List ℕ → ℕ × ℕ → Option (List Datum)
values_after payload (size, first) =
    if nat_le first size && nat_le size (length payload)
    then values_in (drop first (take size payload)) (drop size payload)
    else None

-- the values of a payload: none exactly where it is a record of no values
unfoldable pub columns : List ℕ → Option (List Datum)
columns payload = option_and_then (values_after payload) (varint payload)
