-- Rows of a made database: how long they are, and one more of them.
use Rattle.std.proofs.Common.{◌≡◌, ℕ, ℤ, pos, ◌+◌, ◌*◌, ◌^◌, ◌<◌, ◌≤◌, Bool, true, false, List, [], ◌∷◌, ◌++◌, length, refl, arith, length-append}
use Rattle.std.specs.Prelude.{nat_lt}
use Rattle.std.specs.List.{position_or_len}
use Rattle.std.proofs.lemmas.Bool.Decides.{nat_tests}
use Rattle.btree_page.specs.Payload.{max_payload}
use Rattle.db_format.specs.Serial.{size_of}
use Rattle.db_format.specs.Value.{Datum}
use Rattle.db_format.specs.Value.Datum.{int}
use Rattle.db_format.specs.Row.{body_written, datum_bytes, header_size, integer_type, record_bytes, steps, type_of, types_written}
use Rattle.db_format.specs.Varint.{varint_bytes}
use Rattle.db_format.proofs.SerialLemmas.{is_written}
use Rattle.db_format.proofs.VarintLemmas.{length-varint_bytes, varint_size-most}
use Rattle.db_maker.specs.Parts.{schema_values}

-- so many bytes a value at most, beside those of the body
pub types_short : (values : List Datum) → length (types_written values) ≤ 9 * length values
types_short [] = omega arith
types_short (value ∷ values) =
    omega (arith, length-append (varint_bytes (type_of value)) (types_written values), length-varint_bytes (type_of value), varint_size-most (type_of value), types_short values)

pub record_short : (values : List Datum) → length (record_bytes values) ≤ 9 + 9 * length values + length (body_written values)
record_short values =
    let head = header_size (length (types_written values)) in
    omega (
      arith,
      length-append (varint_bytes head ++ types_written values) (body_written values),
      length-append (varint_bytes head) (types_written values),
      length-varint_bytes head,
      varint_size-most head,
      types_short values,
    )

-- ---- rows of the schema

place_most : {X : Type 0} (p : X → Bool) (xs : List X) → position_or_len p xs ≤ length xs
place_most p [] = omega arith
place_most p (x ∷ xs) = by_case (place_most p xs) (p x) refl
  where
    by_case : position_or_len p xs ≤ length xs → (b : Bool) → p x ≡ b → position_or_len p (x ∷ xs) ≤ length (x ∷ xs)
    by_case least true is = let none : position_or_len p (x ∷ xs) ≡ 0 = rw is refl in omega arith
    by_case least false is = let more : position_or_len p (x ∷ xs) ≡ position_or_len p xs + 1 = rw is (omega arith) in omega arith

size_small : (serial : ℕ) → serial ≤ 6 → size_of serial ≤ 8
unfolding size_of
size_small serial low = grind (arith, nat_tests)

type_small : (z : ℤ) → integer_type z ≤ 6
unfolding integer_type
type_small z = omega (arith, place_most (λ bits. nat_lt (steps z) (2 ^ bits)) (7 ∷ 15 ∷ 23 ∷ 31 ∷ 47 ∷ []))

pub number_short : (n : ℕ) → n < 2 ^ 63 → length (datum_bytes (int (pos n))) ≤ 8
number_short n small =
    let size : size_of (integer_type (pos n)) ≡ length (datum_bytes (int (pos n))) = (is_written (int (pos n)) small).sized in
    let most : size_of (integer_type (pos n)) ≤ 8 = size_small (integer_type (pos n)) (type_small (pos n)) in
    omega arith

-- a row of the schema, whatever root page it names
pub row_short : (kind name table sql : List ℕ) (root : ℕ) → root < 2 ^ 63
    → length (record_bytes (schema_values kind name table root sql)) ≤ 62 + (length kind + (length name + (length table + length sql)))
row_short kind name table sql root small =
    let number : List ℕ = datum_bytes (int (pos root)) in
    let whole : length (record_bytes (schema_values kind name table root sql)) ≤ 9 + 9 * 5 + length (kind ++ (name ++ (table ++ (number ++ (sql ++ []))))) =
    record_short (schema_values kind name table root sql) in
    let most : length number ≤ 8 = number_short root small in
    omega (
      arith,
      whole,
      most,
      length-append kind (name ++ (table ++ (number ++ (sql ++ [])))),
      length-append name (table ++ (number ++ (sql ++ []))),
      length-append table (number ++ (sql ++ [])),
      length-append number (sql ++ []),
      length-append sql [],
    )

pub schema_short : (kind name table sql : List ℕ) (root : ℕ) → root < 2 ^ 63 → length kind + length name + length table + length sql ≤ 1000
    → length (record_bytes (schema_values kind name table root sql)) ≤ max_payload
schema_short kind name table sql root small few = omega (arith, row_short kind name table sql root small, few)
