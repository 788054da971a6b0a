-- A number, as it is parsed.
use Rattle.std.proofs.Common.{◌≡◌, ◌==◌, ◌&&◌, ◌≤◌, ◌<◌, ◌^◌, ℕ, Bool, true, false, cond, List, [], ◌∷◌, length, drop, Some, None, refl, sym, ap, subst, ◌∙◌, arith, rules}
use Rattle.std.proofs.lemmas.Bool.Decides.{nat_tests}
use Rattle.std.proofs.lemmas.Str.{IsUtf8-from_ascii}
use Rattle.std.specs.Prelude.{zero, suc, slice_index, nat_le, nat_lt, if◌then◌else◌}
use Rattle.std.specs.Char.{digit_value}
use Rattle.std.specs.List.{list_all}
use Rattle.std.specs.Str.{IsUtf8}
use Rattle.std.specs.Str.Parse.{AllDigits, IsNumeral, digits_value, without_leading_plus}
use Rattle.std.specs.Cmp.Derive.{both_true}
use Rattle.text_lines.specs.Numbers.{is_number, number_named}

le_true : (a b : ℕ) → a ≤ b → nat_le a b ≡ true
le_true a b le = search (rules, le)

true_le : (a b : ℕ) → nat_le a b ≡ true → a ≤ b
true_le a b is = search rules

lt_true : (a b : ℕ) → a < b → nat_lt a b ≡ true
lt_true a b less = search (rules, less)

true_lt : (a b : ℕ) → nat_lt a b ≡ true → a < b
true_lt a b is = search rules

and_true : (a b : Bool) → (a && b) ≡ true → (a ≡ true) × (b ≡ true)
and_true a b is = search (rules, is)

tested : (w : List ℕ) → AllDigits 10 w → list_all (λ digit. nat_lt (digit_value digit) 10) w ≡ true
tested [] all = refl
tested (c ∷ cs) all = both_true (lt_true (digit_value c) 10 all.0) (tested cs all.1)

all_digits : (w : List ℕ) → list_all (λ digit. nat_lt (digit_value digit) 10) w ≡ true → AllDigits 10 w
all_digits [] is = tt
all_digits (c ∷ cs) is =
    let two = and_true (nat_lt (digit_value c) 10) (list_all (λ digit. nat_lt (digit_value digit) 10) cs) is in
    (true_lt (digit_value c) 10 two.0, all_digits cs two.1)

-- no plus stands first
plain_word : (w : List ℕ) → (slice_index w 0 == 43) ≡ false → without_leading_plus w ≡ w
plain_word w is = ap (λ (b : Bool). drop (cond b 1 0) w) is

abbrev Parses : List ℕ → Type 0
Parses w = IsNumeral 10 w × (digits_value 10 w < 2 ^ 32)

is_named : (w : List ℕ) → length w ≤ 10 → Parses w → is_number w ≡ true
is_named w few parses =
    both_true (both_true (both_true (le_true 1 (length w) parses.0.0) (le_true (length w) 10 few)) (tested w parses.0.1))
    (le_true (digits_value 10 w) 4294967295 (below (digits_value 10 w) parses.1))
  where
    below : (n : ℕ) → n < 2 ^ 32 → n ≤ 4294967295
    below n less = let most : n < 4294967296 = less in omega (arith, most)

parses_so : (w : List ℕ) → is_number w ≡ true → Parses w
parses_so w is =
    let one = and_true (nat_le 1 (length w) && nat_le (length w) 10 && list_all (λ digit. nat_lt (digit_value digit) 10) w) (nat_le (digits_value 10 w) 4294967295) is in
    let two = and_true (nat_le 1 (length w) && nat_le (length w) 10) (list_all (λ digit. nat_lt (digit_value digit) 10) w) one.0 in
    let three = and_true (nat_le 1 (length w)) (nat_le (length w) 10) two.0 in
    ((true_le 1 (length w) three.0, all_digits w two.1), above (digits_value 10 w) (true_le (digits_value 10 w) 4294967295 one.1))
  where
    above : (n : ℕ) → n ≤ 4294967295 → n < 2 ^ 32
    above n le = let less : n < 4294967296 = omega (arith, le) in less

pub named : (w : List ℕ) (n : ℕ) → length w ≤ 10 → (slice_index w 0 == 43) ≡ false → Parses (without_leading_plus w) → n ≡ digits_value 10 (without_leading_plus w)
    → Some n ≡ number_named w
named w n few plain parses is =
    let same = plain_word w plain in
    let yes = is_named w few (subst (λ (l : List ℕ). Parses l) same parses) in
    ap (λ (k : ℕ). Some k) (is ∙ ap (λ (l : List ℕ). digits_value 10 l) same)
    ∙ sym (ap (λ (b : Bool). if b then Some (digits_value 10 w) else None) yes)

pub not_named : (w : List ℕ) → (slice_index w 0 == 43) ≡ false → (Parses (without_leading_plus w) → ⊥) → None ≡ number_named w
not_named w plain fails = by_test (is_number w) refl
  where
    by_test : (b : Bool) → is_number w ≡ b → None ≡ (if b then Some (digits_value 10 w) else None)
    by_test true is = absurd (fails (subst (λ (l : List ℕ). Parses l) (sym (plain_word w plain)) (parses_so w is)))
    by_test false is = refl

-- digits are text
digit_below : (d : ℕ) → digit_value d < 10 → d < 128
digit_below d is = grind (arith, nat_tests)

are_ascii : (w : List ℕ) (i : ℕ) → AllDigits 10 w → slice_index w i < 128
are_ascii [] i all = omega arith
are_ascii (c ∷ cs) zero all = digit_below c all.0
are_ascii (c ∷ cs) (suc i) all = are_ascii cs i all.1

pub no_text : (w : List ℕ) → (IsUtf8 w → ⊥) → None ≡ number_named w
no_text w fails = by_test (is_number w) refl
  where
    by_test : (b : Bool) → is_number w ≡ b → None ≡ (if b then Some (digits_value 10 w) else None)
    by_test true is = absurd (fails (IsUtf8-from_ascii w (λ i. are_ascii w i (parses_so w is).0.1)))
    by_test false is = refl
