-- Tests of numbers, and digits of a word, as they are parsed.
use Rattle.std.proofs.Common.{◌≡◌, ◌==◌, ◌≤◌, ◌<◌, ℕ, Bool, true, false, cond, List, [], ◌∷◌, drop, refl, ap, rules}
use Rattle.std.specs.Prelude.{slice_index, nat_le, nat_lt}
use Rattle.std.specs.Char.{digit_value}
use Rattle.std.specs.List.{list_all}
use Rattle.std.specs.Str.Parse.{AllDigits, without_leading_plus}
use Rattle.std.specs.Cmp.Derive.{both_true}
use Rattle.pager.proofs.BatchLemmas.{and_true}

pub le_true : (a b : ℕ) → a ≤ b → nat_le a b ≡ true
le_true a b le = search (rules, le)

pub true_le : (a b : ℕ) → nat_le a b ≡ true → a ≤ b
true_le a b is = search rules

pub lt_true : (a b : ℕ) → a < b → nat_lt a b ≡ true
lt_true a b less = search (rules, less)

pub true_lt : (a b : ℕ) → nat_lt a b ≡ true → a < b
true_lt a b is = search rules

pub no_less : (a b : ℕ) → nat_lt a b ≡ false → b ≤ a
no_less a b is = search rules

pub no_more : (a b : ℕ) → b ≤ a → nat_lt a b ≡ false
no_more a b le = search (rules, le)

-- ---- a word of digits

pub tested : (w : List ℕ) → AllDigits 10 w → list_all (λ digit. nat_lt (digit_value digit) 10) w ≡ true
tested [] all = refl
tested (c ∷ cs) all = both_true (lt_true (digit_value c) 10 all.0) (tested cs all.1)

pub all_digits : (w : List ℕ) → list_all (λ digit. nat_lt (digit_value digit) 10) w ≡ true → AllDigits 10 w
all_digits [] is = tt
all_digits (c ∷ cs) is =
    let two = and_true (nat_lt (digit_value c) 10) (list_all (λ digit. nat_lt (digit_value digit) 10) cs) is in
    (true_lt (digit_value c) 10 two.0, all_digits cs two.1)

-- no plus stands first
pub plain_word : (w : List ℕ) → (slice_index w 0 == 43) ≡ false → without_leading_plus w ≡ w
plain_word w is = ap (λ (b : Bool). drop (cond b 1 0) w) is
