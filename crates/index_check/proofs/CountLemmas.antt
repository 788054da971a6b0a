-- Each row has one entry exactly where the counts say so.
use Rattle.std.proofs.Common.{◌≡◌, ◌<◌, ◌≤◌, ◌+◌, ◌-◌, ℕ, zero, suc, ℤ, Bool, true, false, not, ◌||◌, ◌&&◌, ◌==◌, cond, eq-eqb, List, [], ◌∷◌, length, slice_index_or, Option, Some, None, arith, refl, ap, sym, ◌∙◌, true≢false}
use Rattle.std.specs.Prelude.{int_lt, sum_by, count_by, filter}
use Rattle.std.specs.List.{list_any}
use Rattle.std.specs.Ordering.{int_eq}
use Rattle.std.proofs.lemmas.Int.{ints}
use Rattle.std.proofs.lemmas.List.Sums.{sum_by-cons}
use Rattle.std.proofs.lemmas.List.Folds.{list_any_none}
use Rattle.std.proofs.lemmas.List.Filters.{length-filter_both}
use Rattle.index_check.proofs.PlaceLemmas.{nobody}
use Rattle.index_check.specs.Agree.{IsOneForOne, beyond, entries_of, has_entry, has_row, is_of, missing, nameless, strangers}
use Rattle.index_check.specs.Checked.{IsAgreement, IsRising, is_whole, surplus}
use Rattle.index_check.specs.declared.agreement.Agreement.{Agreement}

-- the entries that belong to no row: those that end with a rowid which no row has, and those that end in no integer
abbrev unknown : List ℤ → List (Option ℤ) → List (Option ℤ)
unknown rows owners = filter (λ owner. not (has_row rows owner)) owners

abbrev bit : Bool → ℕ
bit b = cond b 1 0

-- ---- sums

count_first : {X : Type 0} (p : X → Bool) (x : X) (xs : List X) → count_by p (x ∷ xs) ≡ cond (p x) 1 0 + count_by p xs
count_first p x xs = sum_by-cons (λ y. cond (p y) 1 0) x xs

sum_of_two : (f g : ℤ → ℕ) (rows : List ℤ) → sum_by (λ r. f r + g r) rows ≡ sum_by f rows + sum_by g rows
sum_of_two f g [] = refl
sum_of_two f g (r ∷ rows) = omega (arith, sum_of_two f g rows, sum_by-cons (λ s. f s + g s) r rows, sum_by-cons f r rows, sum_by-cons g r rows)

sum_same : (f g : ℤ → ℕ) → ((r : ℤ) → f r ≡ g r) → (rows : List ℤ) → sum_by f rows ≡ sum_by g rows
sum_same f g same [] = refl
sum_same f g same (r ∷ rows) = omega (arith, sum_same f g same rows, sum_by-cons f r rows, sum_by-cons g r rows, same r)

no_sum : (rows : List ℤ) → sum_by (λ r. 0) rows ≡ 0
no_sum [] = refl
no_sum (r ∷ rows) = omega (arith, no_sum rows, sum_by-cons (λ (s : ℤ). 0) r rows)

sum_least : (f : ℤ → ℕ) (rows : List ℤ) → ((k : ℕ) (d : ℤ) → k < length rows → 1 ≤ f (slice_index_or rows k d)) → length rows ≤ sum_by f rows
sum_least f [] each = omega arith
sum_least f (r ∷ rows) each =
    let first : 1 ≤ f r = each 0 r (omega arith) in
    omega (arith, sum_least f rows (λ k d l. each (suc k) d (omega arith)), sum_by-cons f r rows)

-- numbers of which none is 0, and that come to one each, are ones
all_ones : (f : ℤ → ℕ) (rows : List ℤ) → ((k : ℕ) (d : ℤ) → k < length rows → 1 ≤ f (slice_index_or rows k d)) → sum_by f rows ≡ length rows
    → (k : ℕ) (d : ℤ) → k < length rows → f (slice_index_or rows k d) ≡ 1
all_ones f [] each whole k d l = absurd (omega arith)
all_ones f (r ∷ rows) each whole zero d l =
    let first : 1 ≤ f r = each 0 r (omega arith) in
    omega (arith, sum_least f rows (λ k d l. each (suc k) d (omega arith)), sum_by-cons f r rows)
all_ones f (r ∷ rows) each whole (suc k) d l =
    let first : 1 ≤ f r = each 0 r (omega arith) in
    all_ones f rows (λ j e m. each (suc j) e (omega arith)) (omega (arith, sum_least f rows (λ j e m. each (suc j) e (omega arith)), sum_by-cons f r rows)) k d (omega arith)

sum_ones : (f : ℤ → ℕ) (rows : List ℤ) → ((k : ℕ) (d : ℤ) → k < length rows → f (slice_index_or rows k d) ≡ 1) → sum_by f rows ≡ length rows
sum_ones f [] each = refl
sum_ones f (r ∷ rows) each =
    let first : f r ≡ 1 = each 0 r (omega arith) in
    omega (arith, sum_ones f rows (λ k d l. each (suc k) d (omega arith)), sum_by-cons f r rows)

-- ---- rows of an entry

tail_rises : (r : ℤ) (rows : List ℤ) → IsRising (r ∷ rows) → IsRising rows
tail_rises r rows up i j d below l = up (suc i) (suc j) d (omega arith) (omega arith)

other : (r s : ℤ) (o : Option ℤ) → is_of r o ≡ true → int_lt r s ≡ true → is_of s o ≡ false
other r s None e l = refl
other r s (Some x) e l = differs x r s e l
  where
    differs : (x r s : ℤ) → int_eq x r ≡ true → int_lt r s ≡ true → int_eq x s ≡ false
    differs x r s e l = grind (arith, ints)

later : (r : ℤ) (rows : List ℤ) (o : Option ℤ) → IsRising (r ∷ rows) → is_of r o ≡ true → has_row rows o ≡ false
later r rows o up e = list_any_none (λ rowid. is_of rowid o) rows (λ k d l. other r (slice_index_or rows k d) o e (up 0 (suc k) d (omega arith) (omega arith)))

-- an entry has one row at most
one_row : (rows : List ℤ) (o : Option ℤ) → IsRising rows → count_by (λ r. is_of r o) rows ≡ cond (has_row rows o) 1 0
one_row [] o up = refl
one_row (r ∷ rows) o up = first (one_row rows o (tail_rises r rows up)) (is_of r o) refl
  where
    first : count_by (λ s. is_of s o) rows ≡ cond (has_row rows o) 1 0 → (b : Bool) → is_of r o ≡ b → count_by (λ s. is_of s o) (r ∷ rows) ≡ cond (is_of r o || has_row rows o) 1 0
    first rest true e =
        let now : bit (is_of r o || has_row rows o) ≡ 1 = ap (λ b. bit (b || has_row rows o)) e in
        let later_is : bit (has_row rows o) ≡ 0 = ap bit (later r rows o up e) in
        omega (arith, count_first (λ s. is_of s o) r rows, ap bit e, rest)
    first rest false e =
        let now : bit (is_of r o || has_row rows o) ≡ bit (has_row rows o) = ap (λ b. bit (b || has_row rows o)) e in
        omega (arith, count_first (λ s. is_of s o) r rows, ap bit e, rest)

unknown_first : (rows : List ℤ) (o : Option ℤ) (os : List (Option ℤ)) → cond (has_row rows o) 1 0 + length (unknown rows (o ∷ os)) ≡ 1 + length (unknown rows os)
unknown_first rows o os = first (has_row rows o) refl
  where
    first : (b : Bool) → has_row rows o ≡ b → cond (has_row rows o) 1 0 + length (unknown rows (o ∷ os)) ≡ 1 + length (unknown rows os)
    first true e = rw e (omega arith)
    first false e = rw e (omega arith)

-- the entries of all rows, and the unknown, are all entries
pub doubled : (rows : List ℤ) (owners : List (Option ℤ)) → IsRising rows → sum_by (entries_of owners) rows + length (unknown rows owners) ≡ length owners
doubled rows [] up = omega (arith, no_sum rows)
doubled rows (o ∷ os) up =
    omega (
      arith,
      doubled rows os up,
      one_row rows o up,
      unknown_first rows o os,
      sum_same (entries_of (o ∷ os)) (λ r. cond (is_of r o) 1 0 + entries_of os r) (λ r. count_first (is_of r) o os) rows,
      sum_of_two (λ r. cond (is_of r o) 1 0) (entries_of os) rows,
    )

-- ---- nothing that fails a test

none_fails : {X : Type 0} (p : X → Bool) (xs : List X) → length (filter (λ x. not (p x)) xs) ≡ 0 → (k : ℕ) (d : X) → k < length xs → p (slice_index_or xs k d) ≡ true
none_fails p [] none k d l = absurd (omega arith)
none_fails {X = X} p (x ∷ xs) none k d l = first (p x) refl (none_fails p xs) k l none
  where
    first : (b : Bool) → p x ≡ b → (length (filter (λ x. not (p x)) xs) ≡ 0 → (k : ℕ) (d : X) → k < length xs → p (slice_index_or xs k d) ≡ true)
        → (k : ℕ) → k < length (x ∷ xs) → length (filter (λ x. not (p x)) (x ∷ xs)) ≡ 0 → p (slice_index_or (x ∷ xs) k d) ≡ true
    first true e rest zero l none = e
    first true e rest (suc k) l none = rest (sym (ap (λ b. length (cond (not b) (x ∷ filter (λ x. not (p x)) xs) (filter (λ x. not (p x)) xs))) e) ∙ none) k d (omega arith)
    first false e rest k l none =
        let no : length (x ∷ filter (λ x. not (p x)) xs) ≡ 0 = sym (ap (λ b. length (cond (not b) (x ∷ filter (λ x. not (p x)) xs) (filter (λ x. not (p x)) xs))) e) ∙ none in
        absurd (omega arith)

all_pass : {X : Type 0} (p : X → Bool) (xs : List X) → ((k : ℕ) (d : X) → k < length xs → p (slice_index_or xs k d) ≡ true) → length (filter (λ x. not (p x)) xs) ≡ 0
all_pass p [] each = refl
all_pass p (x ∷ xs) each =
    ap (λ b. length (cond (not b) (x ∷ filter (λ x. not (p x)) xs) (filter (λ x. not (p x)) xs))) (each 0 x (omega arith)) ∙ all_pass p xs (λ k d l. each (suc k) d (omega arith))

some_counted : {X : Type 0} (p : X → Bool) (xs : List X) → list_any p xs ≡ true → 1 ≤ count_by p xs
some_counted p [] e = absurd (true≢false (sym e))
some_counted p (x ∷ xs) e = first (p x) refl (some_counted p xs)
  where
    first : (b : Bool) → p x ≡ b → (list_any p xs ≡ true → 1 ≤ count_by p xs) → 1 ≤ count_by p (x ∷ xs)
    first true is rest = omega (arith, count_first p x xs, ap bit is)
    first false is rest = omega (arith, count_first p x xs, ap bit is, rest (sym (ap (λ b. b || list_any p xs) is) ∙ e))

counted_some : {X : Type 0} (p : X → Bool) (xs : List X) → 1 ≤ count_by p xs → list_any p xs ≡ true
counted_some p [] e = absurd (omega arith)
counted_some p (x ∷ xs) e = first (p x) refl (counted_some p xs)
  where
    first : (b : Bool) → p x ≡ b → (1 ≤ count_by p xs → list_any p xs ≡ true) → (p x || list_any p xs) ≡ true
    first true is rest = ap (λ b. b || list_any p xs) is
    first false is rest = ap (λ b. b || list_any p xs) is ∙ rest (omega (arith, count_first p x xs, ap bit is))

-- ---- the entries of no row, by whether they end in an integer

unknown_parts : (rows : List ℤ) (owners : List (Option ℤ)) → length (unknown rows owners) ≡ length (strangers rows owners) + length (nameless owners)
unknown_parts rows [] = refl
unknown_parts rows (None ∷ os) = ap (λ b. length (cond (not b) (None ∷ unknown rows os) (unknown rows os))) (nobody rows) ∙ omega (arith, unknown_parts rows os)
unknown_parts rows (Some x ∷ os) = first (has_row rows (Some x)) refl (unknown_parts rows os)
  where
    first : (b : Bool) → has_row rows (Some x) ≡ b → length (unknown rows os) ≡ length (strangers rows os) + length (nameless os)
        → length (unknown rows (Some x ∷ os)) ≡ length (strangers rows (Some x ∷ os)) + length (nameless (Some x ∷ os))
    first true e rest = rw e rest
    first false e rest = rw e (omega (arith, rest))

-- ---- the law

pub one_for_one : (rows : List ℤ) (owners : List (Option ℤ)) → IsRising rows → length (missing rows owners) ≡ 0 → length (strangers rows owners) ≡ 0 → length (nameless owners) ≡ 0
    → length owners ≡ length rows → IsOneForOne rows owners
one_for_one rows owners up no_row no_stranger no_name same =
    let no_entry : length (unknown rows owners) ≡ 0 = omega (arith, unknown_parts rows owners) in
    record {
      one = all_ones (entries_of owners) rows
          (λ k d l. some_counted (is_of (slice_index_or rows k d)) owners (none_fails (has_entry owners) rows no_row k d l))
          (omega (arith, doubled rows owners up));
      known = none_fails (has_row rows) owners no_entry;
    }

pub counts_of_whole : (rows : List ℤ) (owners : List (Option ℤ)) → IsRising rows → IsOneForOne rows owners
    → (length (missing rows owners) ≡ 0) × (length (strangers rows owners) ≡ 0) × (length (nameless owners) ≡ 0) × (length owners ≡ length rows)
counts_of_whole rows owners up whole =
    let no_entry : length (unknown rows owners) ≡ 0 = all_pass (has_row rows) owners whole.known in (
      all_pass (has_entry owners) rows (λ k d l. counted_some (is_of (slice_index_or rows k d)) owners (let is : entries_of owners (slice_index_or rows k d) ≡ 1 = whole.one k d l in omega arith)),
      omega (arith, unknown_parts rows owners),
      omega (arith, unknown_parts rows owners),
      omega (arith, doubled rows owners up, sum_ones (entries_of owners) rows whole.one),
    )

-- how many entries there are beyond one a row
over_one : (f : ℤ → ℕ) (rows : List ℤ) (p : ℤ → Bool) → ((r : ℤ) → p r ≡ true → 1 ≤ f r) → ((r : ℤ) → p r ≡ false → f r ≡ 0)
    → sum_by (λ r. f r - 1) rows + length rows ≡ sum_by f rows + length (filter (λ r. not (p r)) rows)
over_one f [] p some none = refl
over_one f (r ∷ rows) p some none = first (p r) refl (over_one f rows p some none)
  where
    first : (b : Bool) → p r ≡ b → sum_by (λ s. f s - 1) rows + length rows ≡ sum_by f rows + length (filter (λ s. not (p s)) rows)
        → sum_by (λ s. f s - 1) (r ∷ rows) + length (r ∷ rows) ≡ sum_by f (r ∷ rows) + length (filter (λ s. not (p s)) (r ∷ rows))
    first true e rest =
        let least : 1 ≤ f r = some r e in
        let kept : length (filter (λ s. not (p s)) (r ∷ rows)) ≡ length (filter (λ s. not (p s)) rows) = ap (λ b. length (cond (not b) (r ∷ filter (λ s. not (p s)) rows) (filter (λ s. not (p s)) rows))) e in
        omega (arith, rest, sum_by-cons (λ s. f s - 1) r rows, sum_by-cons f r rows)
    first false e rest =
        let zero_is : f r ≡ 0 = none r e in
        let more : length (filter (λ s. not (p s)) (r ∷ rows)) ≡ suc (length (filter (λ s. not (p s)) rows)) = ap (λ b. length (cond (not b) (r ∷ filter (λ s. not (p s)) rows) (filter (λ s. not (p s)) rows))) e in
        omega (arith, rest, sum_by-cons (λ s. f s - 1) r rows, sum_by-cons f r rows)

none_counted : {X : Type 0} (p : X → Bool) (xs : List X) → list_any p xs ≡ false → count_by p xs ≡ 0
none_counted p xs e = first (count_by p xs) refl
  where
    first : (n : ℕ) → count_by p xs ≡ n → count_by p xs ≡ 0
    first zero is = is
    first (suc n) is = absurd (true≢false (sym (counted_some p xs (omega (arith, is))) ∙ e))

pub beyond_is : (rows : List ℤ) (owners : List (Option ℤ)) → IsRising rows
    → beyond rows owners ≡ length owners - length (strangers rows owners) - length (nameless owners) - (length rows - length (missing rows owners))
beyond_is rows owners up =
    omega (
      arith,
      doubled rows owners up,
      unknown_parts rows owners,
      over_one (entries_of owners) rows (has_entry owners) (λ r e. some_counted (is_of r) owners e) (λ r e. none_counted (is_of r) owners e),
      few_missing,
    )
  where
    few_missing : length (missing rows owners) ≤ length rows
    few_missing = omega (arith, length-filter_both (λ r. not (has_entry owners r)) (has_entry owners) (λ r. not_not (has_entry owners r)) rows)
      where
        not_not : (b : Bool) → b ≡ not (not b)
        not_not true = refl
        not_not false = refl

-- ---- the counts of a check

same_number : (a b : ℕ) → (a == b) ≡ true → a ≡ b
same_number a b e = grind arith

module _ (rows : List ℤ) (owners : List (Option ℤ)) (found : Agreement) (up : IsRising rows) (is : IsAgreement rows owners found) where
  all_four : (a b c d : Bool) → (a && b && c && d) ≡ true → (a ≡ true) × (b ≡ true) × (c ≡ true) × (d ≡ true)
  all_four true true true true e = (refl, refl, refl, refl)
  all_four true true true false e = absurd (true≢false (sym e))
  all_four true true false d e = absurd (true≢false (sym e))
  all_four true false c d e = absurd (true≢false (sym e))
  all_four false b c d e = absurd (true≢false (sym e))

  pub counts_whole : is_whole found ≡ true → IsOneForOne rows owners
  counts_whole whole =
      let four = all_four (found.missing.count == 0) (found.strangers.count == 0) (found.nameless == 0) (found.entries == found.rows) whole in
      one_for_one rows owners up
      (sym is.missing_are.count_is ∙ same_number found.missing.count 0 four.0) (sym is.strangers_are.count_is ∙ same_number found.strangers.count 0 four.1)
      (sym is.nameless_are ∙ same_number found.nameless 0 four.2) (sym is.entries_are ∙ same_number found.entries found.rows four.3 ∙ is.rows_are)

  pub whole_counts : IsOneForOne rows owners → is_whole found ≡ true
  whole_counts whole =
      let four = counts_of_whole rows owners up whole in
      rw (
        eq-eqb found.missing.count 0 (is.missing_are.count_is ∙ four.0),
        eq-eqb found.strangers.count 0 (is.strangers_are.count_is ∙ four.1),
        eq-eqb found.nameless 0 (is.nameless_are ∙ four.2),
        eq-eqb found.entries found.rows (is.entries_are ∙ four.3 ∙ sym is.rows_are),
      ) refl

  pub surplus_is : surplus found ≡ beyond rows owners
  surplus_is = omega (arith, beyond_is rows owners up, is.rows_are, is.entries_are, is.missing_are.count_is, is.strangers_are.count_is, is.nameless_are)
