-- A record that is written is the record of its values.
use Rattle.std.proofs.Common.{◌≡◌, ℕ, ◌+◌, ◌*◌, ◌^◌, ◌<◌, ◌≤◌, List, [], ◌∷◌, ◌++◌, length, map, Some, refl, sym, ap, ap₂, ◌∙◌, arith, append_assoc, append-nil, add-one, pow-suc, inl, inr}
use Rattle.std.proofs.Math.Nat.{pow-le-pow_right}
use Rattle.std.proofs.lemmas.Bool.{cases_lt}
use Rattle.std.specs.Prelude.{Result, Ok, Err, OnOk, OnErr, flat_map, unwrap_or}
use Rattle.db_format.specs.Varint.{varint_bytes, varint_size}
use Rattle.db_format.specs.Value.{Datum}
use Rattle.db_format.specs.Record.{AreColumns, Column, IsRecordOf, body_of, types_of, values_in, values_of}
use Rattle.db_format.specs.Row.{ArePieces, AreStorable, IsStorable, body_written, datum_bytes, header_size, record_bytes, type_of, types_written, values_held}
use Rattle.db_format.proofs.VarintLemmas.{IsVarintOf-varint_bytes, length-varint_bytes, varint_size-holds, varint_size-least, varint_size-most, varint_size-shortest}
use Rattle.db_format.proofs.SerialLemmas.{is_written}
use Rattle.db_format.proofs.RelationLemmas.{values_in-columns}

-- a value as a column
abbrev column_of : Datum → Column
column_of value = record { spelling = varint_bytes (type_of value); serial = type_of value; bytes = datum_bytes value }

abbrev columns_of : List Datum → List Column
columns_of values = map column_of values

types_of-columns_of : (values : List Datum) → types_of (columns_of values) ≡ types_written values
types_of-columns_of [] = refl
types_of-columns_of (value ∷ values) = ap (λ types. varint_bytes (type_of value) ++ types) (types_of-columns_of values)

body_of-columns_of : (values : List Datum) → body_of (columns_of values) ≡ body_written values
body_of-columns_of [] = refl
body_of-columns_of (value ∷ values) = ap (λ body. datum_bytes value ++ body) (body_of-columns_of values)

columns_of-each : (values : List Datum) → AreStorable values → AreColumns (columns_of values)
columns_of-each [] storable = tt
columns_of-each (value ∷ values) storable =
    let is = is_written value storable.0 in (
      record { spelled = IsVarintOf-varint_bytes (type_of value) is.small; typed = is.typed; sized = is.sized },
      columns_of-each values storable.1,
    )

values_of-columns_of : (values : List Datum) → AreStorable values → values_of (columns_of values) ≡ values
values_of-columns_of [] storable = refl
values_of-columns_of (value ∷ values) storable =
    ap₂ ◌∷◌ (is_written value storable.0).reads (values_of-columns_of values storable.1)

-- ---- the pieces

pub values_in-written : (values : List Datum) → AreStorable values → values_in (types_written values) (body_written values) ≡ Some values
values_in-written values storable =
    let types = types_of-columns_of values in
    let body : body_of (columns_of values) ++ [] ≡ body_written values = append-nil (body_of (columns_of values)) ∙ body_of-columns_of values in
    ap₂ values_in (sym types) (sym body)
    ∙ values_in-columns (columns_of values) [] (columns_of-each values storable)
    ∙ ap Some (values_of-columns_of values storable)

-- types and bytes as they are written hold their values
values_held-written : (types body : List ℕ) (values : List Datum) → types ≡ types_written values → body ≡ body_written values
    → AreStorable values → values_held types body ≡ values
values_held-written types body values types_are body_is storable =
    ap (λ read. unwrap_or read []) (ap₂ values_in types_are body_is ∙ values_in-written values storable)

pieces_of : (types body : List ℕ) (values : List Datum) → types ≡ types_written values → body ≡ body_written values
    → AreStorable values → ArePieces types body
pieces_of types body values types_are body_is storable =
    let held = values_held-written types body values types_are body_is storable in
    record { types_are = rw held types_are; body_is = rw held body_is; storable = rw held storable }

pub no_pieces : ArePieces [] []
no_pieces = pieces_of [] [] [] refl refl tt

pub no_values : values_held [] [] ≡ []
no_values = values_held-written [] [] [] refl refl tt

flat_map-push : (f : Datum → List ℕ) (values : List Datum) (value : Datum) → flat_map f (values ++ value ∷ []) ≡ flat_map f values ++ f value
flat_map-push f [] value = append-nil (f value)
flat_map-push f (first ∷ values) value = ap (λ later. f first ++ later) (flat_map-push f values value) ∙ sym (append_assoc (f first) (flat_map f values) (f value))

storable-push : (values : List Datum) (value : Datum) → AreStorable values → IsStorable value → AreStorable (values ++ value ∷ [])
storable-push [] value storable is = (is, tt)
storable-push (first ∷ values) value storable is = (storable.0, storable-push values value storable.1 is)

-- one value more
pub record IsPushed (types body new_types new_body : List ℕ) (value : Datum) : Type 0 where
  pub pieces : ArePieces new_types new_body
  pub values : values_held new_types new_body ≡ values_held types body ++ value ∷ []

pub is_pushed : (types body new_types new_body : List ℕ) (value : Datum) → ArePieces types body → IsStorable value
    → new_types ≡ types ++ varint_bytes (type_of value) → new_body ≡ body ++ datum_bytes value → IsPushed types body new_types new_body value
is_pushed types body new_types new_body value are is types_are body_is =
    let values = values_held types body in
    let more = values ++ value ∷ [] in
    let types_more : new_types ≡ types_written more =
    types_are ∙ ap (λ xs. xs ++ varint_bytes (type_of value)) are.types_are ∙ sym (flat_map-push (λ v. varint_bytes (type_of v)) values value) in
    let body_more : new_body ≡ body_written more =
    body_is ∙ ap (λ xs. xs ++ datum_bytes value) are.body_is ∙ sym (flat_map-push datum_bytes values value) in
    let storable = storable-push values value are.storable is in
    record {
      pieces = pieces_of new_types new_body more types_more body_more storable;
      values = values_held-written new_types new_body more types_more body_more storable;
    }

-- one value more, or those that there were
pub pushed : {T E : Type 0} (result : Result T E) (types body new_types new_body : List ℕ) (value : Datum) → ArePieces types body
    → OnOk result (new_types ≡ types ++ varint_bytes (type_of value)) → OnOk result (new_body ≡ body ++ datum_bytes value)
    → OnOk result (IsStorable value) → OnErr result ((new_types ≡ types) × (new_body ≡ body))
    → ArePieces new_types new_body × OnOk result (values_held new_types new_body ≡ values_held types body ++ value ∷ [])
pushed (Ok _) types body new_types new_body value are types_are body_is storable same =
    let more = is_pushed types body new_types new_body value are storable types_are body_is in
    (more.pieces, more.values)
pushed (Err _) types body new_types new_body value are types_are body_is storable same =
    (rw (same.0, same.1) are, tt)

-- ---- the header's length

-- a longer number takes no fewer bytes
varint_size-monotone : (a b : ℕ) → a ≤ b → varint_size a ≤ varint_size b
varint_size-monotone a b below =
    elim (cases_lt (varint_size b) (varint_size a)) [
      | inr fine ↦ fine
      | inl fewer ↦
          let most = varint_size-most a in
          absurd (omega (arith, varint_size-holds b (omega arith), varint_size-shortest a (varint_size b) (varint_size-least b) fewer))
    ]

-- the varint of the header's length is as long as was counted
header_size-counted : (types : ℕ) → varint_size (header_size types) ≡ varint_size (types + varint_size types)
header_size-counted types =
    let first = varint_size types in
    let second = varint_size (types + first) in
    let third = varint_size (types + second) in
    let up : first ≤ second = varint_size-monotone types (types + first) (omega arith) in
    let up_more : second ≤ third = varint_size-monotone (types + first) (types + second) (omega arith) in
    elim (cases_lt second third) [
      | inr fine ↦ omega arith
      | inl more ↦
          let most = varint_size-most (types + second) in
          let above : 128 ^ second ≤ types + second = varint_size-shortest (types + second) second (varint_size-least (types + first)) more in
          let below : types + first < 128 ^ second = varint_size-holds (types + first) (omega arith) in
          let small : types < 128 ^ first = varint_size-holds types (omega arith) in
          let power : 128 ^ (first + 1) ≤ 128 ^ second = pow-le-pow_right {n = 128} (omega arith) {i = first + 1} {j = second} (omega arith) in
          let wider : 128 ^ (first + 1) ≡ 128 ^ first * 128 = rw add-one (pow-suc 128 first) in
          absurd (omega arith)
    ]

pub IsRecordOf-record_bytes : (values : List Datum) → AreStorable values → length (types_written values) < 2 ^ 63
    → IsRecordOf (record_bytes values) values
IsRecordOf-record_bytes values storable short =
    let types = types_written values in
    let size = header_size (length types) in
    let head = varint_bytes size in
    let most = varint_size-most (length types + varint_size (length types)) in
    let counts : size ≡ length head + length (types_of (columns_of values)) =
    omega (arith, length-varint_bytes size, header_size-counted (length types), ap length (types_of-columns_of values)) in
    record {
      head = head;
      columns = columns_of values;
      rest = [];
      parts =
          ap₂ ◌++◌ (ap (λ xs. head ++ xs) (sym (types_of-columns_of values))) (sym (body_of-columns_of values))
          ∙ sym (append-nil (head ++ types_of (columns_of values) ++ body_of (columns_of values)));
      counted = rw (← counts) (IsVarintOf-varint_bytes size (omega arith));
      each = columns_of-each values storable;
      holds = values_of-columns_of values storable;
    }
