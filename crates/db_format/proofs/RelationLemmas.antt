-- The values that are read off the bytes of a payload are those of the record that it is.
use Rattle.std.proofs.Common.{◌≡◌, ℕ, zero, suc, ◌+◌, ◌≤◌, List, [], ◌∷◌, ◌++◌, length, take, drop, Option, Some, None, true, refl, sym, ap, ap₂, ◌∙◌, arith, append_assoc, length-append, length-drop, inl, inr}
use Rattle.std.proofs.Math.Seq.{take-append_seam, drop-append_seam}
use Rattle.std.proofs.lemmas.Bool.{cases_lt, cases_Bool, le-leb, lt-leb}
use Rattle.std.proofs.lemmas.List.{length-take-le, take-append-drop, take-take}
use Rattle.std.specs.Option.{option_map, option_and_then}
use Rattle.db_format.specs.Varint.{varint}
use Rattle.db_format.specs.Value.{Datum}
use Rattle.db_format.specs.Serial.{is_type, size_of, value_of}
use Rattle.db_format.specs.Record.{AreColumns, Column, IsRecordOf, body_of, columns, first_value, types_of, values_after, values_in, values_of, values_within}
use Rattle.db_format.proofs.VarintLemmas.{varint-append, varint-take}
use Rattle.db_format.proofs.RecordLemmas.{columns-split, values_in-end, values_in-split}

-- the columns of a record are read as their values
pub values_in-columns : (columns : List Column) (rest : List ℕ) → AreColumns columns
    → values_in (types_of columns) (body_of columns ++ rest) ≡ Some (values_of columns)
values_in-columns [] rest each = values_in-end [] rest refl
values_in-columns (column ∷ columns) rest each =
    let is = each.0 in
    let types = types_of columns in
    let body = body_of columns ++ rest in
    let regroup : (column.bytes ++ body_of columns) ++ rest ≡ column.bytes ++ body = append_assoc column.bytes (body_of columns) rest in
    let later = values_in-columns columns rest each.1 in
    ap (values_in (column.spelling ++ types)) regroup
    ∙ values_in-split (column.spelling ++ types) (column.bytes ++ body) column.bytes types body column.serial (length column.spelling)
    (length column.bytes) (varint-append column.spelling types column.serial (length column.spelling) is.spelled) is.typed (sym is.sized)
    (omega (arith, length-append column.bytes body)) (sym (take-append_seam column.bytes body)) (sym (drop-append_seam column.spelling types))
    (sym (drop-append_seam column.bytes body))
    ∙ ap (option_map (λ values. value_of column.serial column.bytes ∷ values)) later

-- a record is read as its values
pub columns-IsRecordOf : (payload : List ℕ) (values : List Datum) → IsRecordOf payload values → columns payload ≡ Some values
columns-IsRecordOf payload values is =
    let head = is.head in
    let types = types_of is.columns in
    let body = body_of is.columns ++ is.rest in
    let front = head ++ types in
    let all = front ++ body in
    let size = length head + length types in
    let counts : size ≡ length front = sym (length-append head types) in
    let parts : payload ≡ all = is.parts ∙ append_assoc front (body_of is.columns) is.rest in
    let read : varint all ≡ Some (size, length head) = varint-append front body size (length head) (varint-append head types size (length head) is.counted) in
    let front_is : take size all ≡ front = ap (λ k. take k all) counts ∙ take-append_seam front body in
    let types_is : types ≡ drop (length head) (take size all) = sym (ap (drop (length head)) front_is ∙ drop-append_seam head types) in
    let body_is : body ≡ drop size all = sym (ap (λ k. drop k all) counts ∙ drop-append_seam front body) in
    ap columns parts
    ∙ columns-split all types body size (length head) read (omega arith) (omega (arith, length-append front body)) types_is body_is
    ∙ values_in-columns is.columns is.rest is.each
    ∙ ap Some is.holds

-- the columns that bytes hold
record Found (types body : List ℕ) (values : List Datum) : Type 0 where
  columns : List Column
  rest : List ℕ
  types_are : types ≡ types_of columns
  body_is : body ≡ body_of columns ++ rest
  each : AreColumns columns
  holds : values_of columns ≡ values

-- one column before those that were found
found_more : (types body : List ℕ) (values : List Datum) (serial n : ℕ) → varint types ≡ Some (serial, n) → is_type serial ≡ true
    → size_of serial ≤ length body → (later : Option (List Datum))
    → option_map (λ rest. value_of serial (take (size_of serial) body) ∷ rest) later ≡ Some values
    → ((rest : List Datum) → later ≡ Some rest → Found (drop n types) (drop (size_of serial) body) rest) → Found types body values
found_more types body values serial n read typed held None is found = absurd (cc)
found_more types body values serial n read typed held (Some rest) is found =
    let later = found rest refl in
    let column : Column = record { spelling = take n types; serial = serial; bytes = take (size_of serial) body } in
    let values_are : value_of serial (take (size_of serial) body) ∷ rest ≡ values = cc in
    record {
      columns = column ∷ later.columns;
      rest = later.rest;
      types_are = sym (take-append-drop n types) ∙ ap (λ xs. take n types ++ xs) later.types_are;
      body_is =
          sym (take-append-drop (size_of serial) body) ∙ ap (λ xs. take (size_of serial) body ++ xs) later.body_is
          ∙ sym (append_assoc (take (size_of serial) body) (body_of later.columns) later.rest);
      each = (
        record {
          spelled = varint-take types serial n read;
          typed = typed;
          sized = sym (length-take-le (size_of serial) body held);
        },
        later.each,
      );
      holds = ap (λ vs. value_of serial (take (size_of serial) body) ∷ vs) later.holds ∙ values_are;
    }

found_first : (types body : List ℕ) (values : List Datum) (serial n : ℕ) → varint types ≡ Some (serial, n) → (later : Option (List Datum))
    → first_value serial body later ≡ Some values
    → ((rest : List Datum) → later ≡ Some rest → Found (drop n types) (drop (size_of serial) body) rest) → Found types body values
found_first types body values serial n read later is found =
    elim (cases_Bool (is_type serial)) [
      | inl typed ↦
          elim (cases_lt (length body) (size_of serial)) [
            | inl short ↦ absurd (cc (rw (typed, lt-leb (size_of serial) (length body) short) at is))
            | inr held ↦
                found_more types body values serial n read typed held later (rw (typed, le-leb (size_of serial) (length body) held) at is) found
          ]
      | inr reserved ↦ absurd (cc (rw reserved at is))
    ]

found_within : (most : ℕ) (types body : List ℕ) (values : List Datum) → values_within most types body ≡ Some values → Found types body values
found_within zero [] body values is = record { columns = []; rest = body; types_are = refl; body_is = refl; each = tt; holds = cc }
found_within zero (byte ∷ types) body values is = absurd (cc)
found_within (suc most) [] body values is = record { columns = []; rest = body; types_are = refl; body_is = refl; each = tt; holds = cc }
found_within (suc most) (byte ∷ types) body values is =
    go (varint (byte ∷ types)) refl is (λ n later_body rest. found_within most (drop n (byte ∷ types)) later_body rest)
  where
    go : (read : Option (ℕ × ℕ)) → varint (byte ∷ types) ≡ read
        → option_and_then (λ first. first_value first.0 body (values_within most (drop first.1 (byte ∷ types)) (drop (size_of first.0) body))) read ≡ Some values
        → ((n : ℕ) (later_body : List ℕ) (rest : List Datum) → values_within most (drop n (byte ∷ types)) later_body ≡ Some rest
        → Found (drop n (byte ∷ types)) later_body rest)
        → Found (byte ∷ types) body values
    go None read is found = absurd (cc)
    go (Some first) read is found =
        found_first (byte ∷ types) body values first.0 first.1 read _ is (λ rest later. found first.1 (drop (size_of first.0) body) rest later)

found : (types body : List ℕ) (values : List Datum) → values_in types body ≡ Some values → Found types body values
unfolding values_in
found types body values is = found_within (length types) types body values is

-- the parts of a payload whose header is within it
record_of : (payload : List ℕ) (values : List Datum) (size first : ℕ) → varint payload ≡ Some (size, first) → first ≤ size
    → size ≤ length payload → Found (drop first (take size payload)) (drop size payload) values → IsRecordOf payload values
record_of payload values size first read held within found =
    let head = take first payload in
    let types = types_of found.columns in
    let counts : size ≡ length head + length types =
    omega (arith, length-take-le first payload (omega arith), ap length found.types_are, length-drop first (take size payload), length-take-le size payload within) in
    let front : take size payload ≡ head ++ types =
    sym (take-append-drop first (take size payload)) ∙ ap₂ ◌++◌ (take-take first size payload held) found.types_are in
    record {
      head = head;
      columns = found.columns;
      rest = found.rest;
      parts =
          sym (take-append-drop size payload) ∙ ap₂ ◌++◌ front found.body_is
          ∙ sym (append_assoc (head ++ types) (body_of found.columns) found.rest);
      counted = rw (← counts) (varint-take payload size first read);
      each = found.each;
      holds = found.holds;
    }

-- a payload that is read is a record of the values
pub IsRecordOf-columns : (payload : List ℕ) (values : List Datum) → columns payload ≡ Some values → IsRecordOf payload values
unfolding columns
IsRecordOf-columns payload values is = go (varint payload) refl is
  where
    go : (read : Option (ℕ × ℕ)) → varint payload ≡ read → option_and_then (values_after payload) read ≡ Some values
        → IsRecordOf payload values
    go None read is = absurd (cc)
    go (Some (size, first)) read is =
        elim (cases_lt size first) [
          | inl short ↦ absurd (cc (rw (lt-leb first size short) at is))
          | inr held ↦
              elim (cases_lt (length payload) size) [
                | inl long ↦ absurd (cc (rw (le-leb first size held, lt-leb size (length payload) long) at is))
                | inr within ↦
                    record_of payload values size first read held within
                    (found (drop first (take size payload)) (drop size payload) values
                    (rw (le-leb first size held, le-leb size (length payload) within) at is))
              ]
        ]

pub no_record : (payload : List ℕ) → columns payload ≡ None → (values : List Datum) → ¬ IsRecordOf payload values
no_record payload none values is = absurd (cc (none, columns-IsRecordOf payload values is))

-- a payload is a record of no other values
pub same_record : (payload : List ℕ) (row : List Datum) → columns payload ≡ Some row → (values : List Datum)
    → IsRecordOf payload values → values ≡ row
same_record payload row read values is = cc (read, columns-IsRecordOf payload values is)
