-- A rowid of the command line, as it is parsed.
use Rattle.std.proofs.Common.{◌≡◌, ◌==◌, ◌&&◌, ◌≤◌, ◌<◌, ◌^◌, ℕ, zero, suc, ℤ, pos, Bool, true, false, cond, List, [], ◌∷◌, length, drop, Some, None, refl, sym, ap, subst, ◌∙◌, arith}
use Rattle.std.specs.Prelude.{neg_ℤ, slice_index, nat_le, nat_lt, if◌then◌else◌}
use mir.Val.{SFits}
use mir.Syntax.{w64}
use Rattle.std.specs.Char.{digit_value}
use Rattle.std.specs.List.{list_all}
use Rattle.std.specs.Str.Parse.{IsNumeral, digits_value, signed_digits_value, starts_with_minus, without_leading_plus, without_leading_sign}
use Rattle.std.specs.Cmp.Derive.{both_true}
use Rattle.pager.proofs.BatchLemmas.{and_true}
use Rattle.sqlcipher_tool.specs.Words.{is_rowid, most_of_sign, rowid_digits, rowid_named, rowid_value}
use Rattle.sqlcipher_tool.proofs.Numbers.{all_digits, le_true, plain_word, tested, true_le}

-- the digits are those that are parsed
same_digits : (w : List ℕ) → (slice_index w 0 == 43) ≡ false → without_leading_sign w ≡ rowid_digits w
same_digits w plain = by_sign (starts_with_minus w)
  where
    by_sign : (b : Bool) → cond b (drop 1 w) (without_leading_plus w) ≡ (if b then drop 1 w else w)
    by_sign true = refl
    by_sign false = plain_word w plain

abbrev signed : Bool → ℕ → ℤ
signed b n = cond b (neg_ℤ (pos n)) (pos n)

-- how far from 0 it may be
small : (b : Bool) (n : ℕ) → SFits w64 (signed b n) → n ≤ most_of_sign b
small true zero fits = omega arith
small true (suc n) fits = let less : n < 2 ^ 63 = fits.sfits in omega (arith, less)
small false n fits = let less : n < 2 ^ 63 = fits.sfits in omega (arith, less)

fitting : (b : Bool) (n : ℕ) → n ≤ most_of_sign b → SFits w64 (signed b n)
fitting true zero le = record { sfits = omega arith }
fitting true (suc n) le = record { sfits = omega (arith, le) }
fitting false n le = record { sfits = omega (arith, le) }

-- the digits are few
short : (b : Bool) (w : List ℕ) → length w ≤ (if b then 20 else 19) → length (if b then drop 1 w else w) ≤ 19
short true [] few = omega arith
short true (c ∷ cs) few = omega (arith, few)
short false w few = few

abbrev pub Parses : List ℕ → Type 0
Parses w = IsNumeral 10 (without_leading_sign w) × SFits w64 (signed_digits_value 10 w)

abbrev pub most_long : List ℕ → ℕ
most_long w = if starts_with_minus w then 20 else 19

value_is : (w : List ℕ) → (slice_index w 0 == 43) ≡ false → signed_digits_value 10 w ≡ rowid_value w
value_is w plain = ap (λ (l : List ℕ). signed (starts_with_minus w) (digits_value 10 l)) (same_digits w plain)

is_named : (w : List ℕ) → length w ≤ most_long w → (slice_index w 0 == 43) ≡ false → Parses w → is_rowid w ≡ true
is_named w few plain parses =
    let digits : IsNumeral 10 (rowid_digits w) = subst (λ (l : List ℕ). IsNumeral 10 l) (same_digits w plain) parses.0 in
    let fits : SFits w64 (rowid_value w) = subst (λ (z : ℤ). SFits w64 z) (value_is w plain) parses.1 in
    both_true (both_true (both_true (le_true 1 (length (rowid_digits w)) digits.0) (le_true (length (rowid_digits w)) 19 (short (starts_with_minus w) w few))) (tested (rowid_digits w) digits.1))
    (le_true (digits_value 10 (rowid_digits w)) (most_of_sign (starts_with_minus w)) (small (starts_with_minus w) (digits_value 10 (rowid_digits w)) fits))

parses_so : (w : List ℕ) → (slice_index w 0 == 43) ≡ false → is_rowid w ≡ true → Parses w
parses_so w plain is =
    let d = rowid_digits w in
    let one = and_true (nat_le 1 (length d) && nat_le (length d) 19 && list_all (λ digit. nat_lt (digit_value digit) 10) d) (nat_le (digits_value 10 d) (most_of_sign (starts_with_minus w))) is in
    let two = and_true (nat_le 1 (length d) && nat_le (length d) 19) (list_all (λ digit. nat_lt (digit_value digit) 10) d) one.0 in
    let three = and_true (nat_le 1 (length d)) (nat_le (length d) 19) two.0 in
    let digits : IsNumeral 10 d = (true_le 1 (length d) three.0, all_digits d two.1) in (
      subst (λ (l : List ℕ). IsNumeral 10 l) (sym (same_digits w plain)) digits,
      subst (λ (z : ℤ). SFits w64 z) (sym (value_is w plain))
          (fitting (starts_with_minus w) (digits_value 10 d) (true_le (digits_value 10 d) (most_of_sign (starts_with_minus w)) one.1)),
    )

pub rowid_is : (w : List ℕ) (z : ℤ) → length w ≤ most_long w → (slice_index w 0 == 43) ≡ false → Parses w → z ≡ signed_digits_value 10 w → Some z ≡ rowid_named w
rowid_is w z few plain parses is =
    ap (λ (k : ℤ). Some k) (is ∙ value_is w plain) ∙ sym (ap (λ (b : Bool). if b then Some (rowid_value w) else None) (is_named w few plain parses))

pub no_rowid : (w : List ℕ) → (slice_index w 0 == 43) ≡ false → (Parses w → ⊥) → None ≡ rowid_named w
no_rowid w plain fails = by_test (is_rowid w) refl
  where
    by_test : (b : Bool) → is_rowid w ≡ b → None ≡ (if b then Some (rowid_value w) else None)
    by_test true is = absurd (fails (parses_so w plain is))
    by_test false is = refl

-- a word with a minus may have one byte more
pub most_minus : (w : List ℕ) → starts_with_minus w ≡ true → length w ≤ 20 → length w ≤ most_long w
most_minus w is le = subst (λ (b : Bool). length w ≤ (if b then 20 else 19)) (sym is) le

pub most_plain : (w : List ℕ) → starts_with_minus w ≡ false → length w ≤ 19 → length w ≤ most_long w
most_plain w is le = subst (λ (b : Bool). length w ≤ (if b then 20 else 19)) (sym is) le
