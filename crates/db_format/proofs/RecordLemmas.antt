-- Records: the values of the first column and of the later ones, and that a record is read as its values.
use Rattle.std.proofs.Common.{◌≡◌, ℕ, zero, suc, ◌<◌, ◌≤◌, List, [], ◌∷◌, length, take, drop, get_or, Option, Some, None, true, false, refl, sym, ap, ◌∙◌, arith, length-drop, inl, inr}
use Rattle.std.specs.Option.{option_map, option_and_then}
use Rattle.std.proofs.lemmas.Bool.{cases_lt, le-leb, lt-leb}
use Rattle.std.specs.Prelude.{unwrap_or}
use Rattle.db_format.specs.Varint.{varint}
use Rattle.db_format.specs.Value.{Datum}
use Rattle.db_format.specs.Serial.{is_type, size_of, value_of}
use Rattle.db_format.specs.Value.Datum.{null}
use Rattle.db_format.specs.Record.{columns, first_value, values_in, values_within}
use Rattle.db_format.proofs.VarintLemmas.{varint-read, varint-some}

-- more fuel than there are bytes changes nothing
same_fuel : (a b : ℕ) (types body : List ℕ) → length types ≤ a → length types ≤ b → values_within a types body ≡ values_within b types body
same_fuel zero zero types body p q = refl
same_fuel zero (suc b) [] body p q = refl
same_fuel zero (suc b) (byte ∷ types) body p q = absurd (omega arith)
same_fuel (suc a) zero [] body p q = refl
same_fuel (suc a) zero (byte ∷ types) body p q = absurd (omega arith)
same_fuel (suc a) (suc b) [] body p q = refl
same_fuel (suc a) (suc b) (byte ∷ types) body p q =
    go (varint (byte ∷ types)) refl
    (λ n some later.
    let shorter = length-drop n (byte ∷ types) in
    same_fuel a b (drop n (byte ∷ types)) later (omega arith) (omega arith))
  where
    go : (read : Option (ℕ × ℕ)) → varint (byte ∷ types) ≡ read
        → ((n : ℕ) → 1 ≤ n → (later : List ℕ) → values_within a (drop n (byte ∷ types)) later ≡ values_within b (drop n (byte ∷ types)) later)
        → option_and_then (λ first. first_value first.0 body (values_within a (drop first.1 (byte ∷ types)) (drop (size_of first.0) body))) read
        ≡ option_and_then (λ first. first_value first.0 body (values_within b (drop first.1 (byte ∷ types)) (drop (size_of first.0) body))) read
    go None is same = refl
    go (Some first) is same =
        ap (first_value first.0 body) (same first.1 (varint-some (byte ∷ types) first.0 first.1 is) (drop (size_of first.0) body))

pub values_in-end : (types body : List ℕ) → length types ≡ 0 → values_in types body ≡ Some []
unfolding values_in
values_in-end [] body none = refl
values_in-end (byte ∷ types) body none = absurd (omega arith)

-- a type that is cut short
pub values_in-cut : (types body : List ℕ) → 0 < length types → varint types ≡ None → values_in types body ≡ None
unfolding values_in
values_in-cut [] body some read = absurd (omega arith)
values_in-cut (byte ∷ types) body some read = rw read refl

pub values_in-first : (types body : List ℕ) (serial n : ℕ) → varint types ≡ Some (serial, n)
    → values_in types body ≡ first_value serial body (values_in (drop n types) (drop (size_of serial) body))
unfolding values_in
values_in-first [] body serial n read =
    let is = varint-read [] serial n read in
    absurd (omega (arith, is.within, varint-some [] serial n read))
values_in-first (byte ∷ types) body serial n read =
    let some = varint-some (byte ∷ types) serial n read in
    let shorter = length-drop n (byte ∷ types) in
    rw read (ap (first_value serial body) (same_fuel (length types) (length (drop n (byte ∷ types))) (drop n (byte ∷ types)) (drop (size_of serial) body) (omega arith) (omega arith)))

-- ---- the first value

pub first_value-reserved : (serial : ℕ) (body : List ℕ) (later : Option (List Datum)) → is_type serial ≡ false
    → first_value serial body later ≡ None
first_value-reserved serial body later reserved = rw reserved refl

pub first_value-short : (serial : ℕ) (body : List ℕ) (later : Option (List Datum)) → is_type serial ≡ true
    → length body < size_of serial → first_value serial body later ≡ None
first_value-short serial body later typed short = rw (typed, lt-leb (size_of serial) (length body) short) refl

pub first_value-held : (serial : ℕ) (body : List ℕ) (later : Option (List Datum)) → is_type serial ≡ true
    → size_of serial ≤ length body
    → first_value serial body later ≡ option_map (λ values. value_of serial (take (size_of serial) body) ∷ values) later
first_value-held serial body later typed held = rw (typed, le-leb (size_of serial) (length body) held) refl

-- the first column, as the bytes are split
pub values_in-split : (types body bytes later_types later_body : List ℕ) (serial n size : ℕ) → varint types ≡ Some (serial, n)
    → is_type serial ≡ true → size ≡ size_of serial → size ≤ length body → bytes ≡ take size body → later_types ≡ drop n types
    → later_body ≡ drop size body
    → values_in types body ≡ option_map (λ values. value_of serial bytes ∷ values) (values_in later_types later_body)
values_in-split types body bytes later_types later_body serial n size read typed sized held front types_left body_left =
    rw (front, types_left, body_left, sized)
    (values_in-first types body serial n read ∙ first_value-held serial body _ typed (omega arith))

-- ---- the header

pub columns-cut : (payload : List ℕ) → varint payload ≡ None → columns payload ≡ None
unfolding columns
columns-cut payload read = rw read refl

pub columns-short : (payload : List ℕ) (size first : ℕ) → varint payload ≡ Some (size, first) → size < first → columns payload ≡ None
unfolding columns
columns-short payload size first read short = rw (read, lt-leb first size short) refl

pub columns-long : (payload : List ℕ) (size first : ℕ) → varint payload ≡ Some (size, first) → first ≤ size
    → length payload < size → columns payload ≡ None
unfolding columns
columns-long payload size first read held long = rw (read, le-leb first size held, lt-leb size (length payload) long) refl

pub columns-split : (payload types body : List ℕ) (size first : ℕ) → varint payload ≡ Some (size, first) → first ≤ size
    → size ≤ length payload → types ≡ drop first (take size payload) → body ≡ drop size payload → columns payload ≡ values_in types body
unfolding columns
columns-split payload types body size first read held within types_is body_is =
    rw (read, le-leb first size held, le-leb size (length payload) within, types_is, body_is) refl

-- ---- how many values there are

pub some-counted : (read : Option (List Datum)) (n : ℕ) → Some n ≡ option_map (λ values. length values) read
    → read ≡ Some (unwrap_or read [])
some-counted None n is = absurd (cc)
some-counted (Some values) n is = refl

pub none-counted : (read : Option (List Datum)) → None ≡ option_map (λ values. length values) read → read ≡ None
none-counted None is = refl
none-counted (Some values) is = cc

-- ---- a value by its place

-- the first of the values and the later ones
pub record AreSplit (value : Datum) (later : Option (List Datum)) (values : List Datum) : Type 0 where
  pub first : value ≡ get_or values 0 null
  pub rest : later ≡ Some (drop 1 values)

pub are_split : (value : Datum) (later : Option (List Datum)) (values : List Datum)
    → option_map (λ rest. value ∷ rest) later ≡ Some values → AreSplit value later values
are_split value None values is = absurd (cc)
are_split value (Some rest) values is =
    let same : value ∷ rest ≡ values = cc in
    record { first = ap (λ vs. get_or vs 0 null) same; rest = ap (λ vs. Some (drop 1 vs)) same }

-- where a value is left, so is a type
pub types-left : (types body : List ℕ) (values : List Datum) → values_in types body ≡ Some values → 0 < length values → 0 < length types
types-left types body values read some =
    elim (cases_lt 0 (length types)) [
      | inl left ↦ left
      | inr none ↦
          let empty : [] ≡ values = the_same (sym (values_in-end types body (omega arith)) ∙ read) in
          absurd (omega (arith, ap length empty))
    ]
  where
    the_same : Some [] ≡ Some values → [] ≡ values
    the_same e = cc
