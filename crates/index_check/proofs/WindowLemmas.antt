-- Windows of a list of rowids that rise.
use Rattle.std.proofs.Common.{◌≡◌, ◌<◌, ◌≤◌, ◌-◌, ℕ, zero, suc, ℤ, pos, Bool, true, false, not, ◌&&◌, cond, List, [], ◌∷◌, ◌++◌, length, take, slice_index_or, Option, arith, refl, ap, sym, ◌∙◌, ⊎_elim}
use Rattle.std.specs.Prelude.{int_lt, nat_lt, filter}
use Rattle.std.proofs.lemmas.Int.{ints}
use Rattle.std.proofs.lemmas.Bool.{cases_lt}
use Rattle.std.proofs.lemmas.List.{append-nil, length-append, take_all, get_or-take}
use Rattle.std.proofs.lemmas.List.Elements.{filter-append}
use Rattle.index_check.specs.Checked.{IsRising}
use Rattle.index_check.specs.Window.{high_of, is_above, is_upto, is_within, room}

-- ---- one rowid more

pub within_take : (n : ℕ) (xs : List ℤ) (k : ℕ) (d : ℤ) → k < n → slice_index_or (take n xs) k d ≡ slice_index_or xs k d
within_take n xs k d l = get_or-take n xs k d l

take_front : (n : ℕ) (xs ys : List ℤ) → n ≤ length xs → take n (xs ++ ys) ≡ take n xs
take_front zero xs ys le = refl
take_front (suc n) [] ys le = absurd (omega arith)
take_front (suc n) (x ∷ xs) ys le = ap (λ l. x ∷ l) (take_front n xs ys (omega arith))

pub long_take : (n : ℕ) (xs : List ℤ) → n ≤ length xs → length (take n xs) ≡ n
long_take zero xs le = refl
long_take (suc n) [] le = absurd (omega arith)
long_take (suc n) (x ∷ xs) le = ap suc (long_take n xs (omega arith))

less_is : (a b : ℕ) → a < b → nat_lt a b ≡ true
less_is a b h = grind arith

not_less : (a b : ℕ) → b ≤ a → nat_lt a b ≡ false
not_less a b h = grind arith

-- ---- a window of rows that rise

below : (d : ℤ) (n : ℕ) (xs : List ℤ) → IsRising xs → n < length xs → filter (λ x. not (int_lt (slice_index_or xs n d) x)) xs ≡ take (suc n) xs
below d n [] up l = absurd (omega arith)
below d zero (x ∷ xs) up l = first (int_lt x x) (itself x)
  where
    itself : (x : ℤ) → int_lt x x ≡ false
    itself x = grind (arith, ints)

    none : (ys : List ℤ) → ((k : ℕ) (e : ℤ) → k < length ys → int_lt x (slice_index_or ys k e) ≡ true) → filter (λ y. not (int_lt x y)) ys ≡ []
    none [] each = refl
    none (y ∷ ys) each = rw (each 0 y (omega arith)) (none ys (λ k e m. each (suc k) e (omega arith)))

    first : (b : Bool) → b ≡ false → cond (not b) (x ∷ filter (λ y. not (int_lt x y)) xs) (filter (λ y. not (int_lt x y)) xs) ≡ x ∷ []
    first b e = rw e (ap (λ l. x ∷ l) (none xs (λ k e m. up 0 (suc k) e (omega arith) (omega arith))))
below d (suc n) (x ∷ xs) up l =
    first (int_lt (slice_index_or xs n d) x) (over x (slice_index_or xs n d) (up 0 (suc n) d (omega arith) l)) (below d n xs (λ i j e less m. up (suc i) (suc j) e (omega arith) (omega arith)) (omega arith))
  where
    over : (a b : ℤ) → int_lt a b ≡ true → int_lt b a ≡ false
    over a b h = grind (arith, ints)

    first : (b : Bool) → b ≡ false → filter (λ y. not (int_lt (slice_index_or xs n d) y)) xs ≡ take (suc n) xs
        → cond (not b) (x ∷ filter (λ y. not (int_lt (slice_index_or xs n d) y)) xs) (filter (λ y. not (int_lt (slice_index_or xs n d) y)) xs) ≡ take (suc (suc n)) (x ∷ xs)
    first b e rest = rw e (ap (λ l. x ∷ l) rest)

-- what two tests pass is what the second passes of what the first does
twice : (p q : ℤ → Bool) (xs : List ℤ) → filter (λ x. p x && q x) xs ≡ filter q (filter p xs)
twice p q [] = refl
twice p q (x ∷ xs) = first (p x) refl (q x) refl (twice p q xs)
  where
    first : (b : Bool) → p x ≡ b → (c : Bool) → q x ≡ c → filter (λ x. p x && q x) xs ≡ filter q (filter p xs) → filter (λ x. p x && q x) (x ∷ xs) ≡ filter q (filter p (x ∷ xs))
    first true e true f rest = rw (e, f) (ap (λ l. x ∷ l) rest)
    first true e false f rest = rw (e, f) rest
    first false e c f rest = rw e rest

all_pass : (xs : List ℤ) → filter (λ (x : ℤ). true) xs ≡ xs
all_pass [] = refl
all_pass (x ∷ xs) = ap (λ l. x ∷ l) (all_pass xs)

tail_rises : (x : ℤ) (xs : List ℤ) → IsRising (x ∷ xs) → IsRising xs
tail_rises x xs up i j d less l = up (suc i) (suc j) d (omega arith) (omega arith)

abbrev above_all : ℤ → List ℤ → Type 0
above_all x ys = (k : ℕ) (e : ℤ) → k < length ys → int_lt x (slice_index_or ys k e) ≡ true

from_front : (x : ℤ) (ys : List ℤ) → above_all x ys → IsRising ys → IsRising (x ∷ ys)
from_front x ys above up zero zero d less l = absurd (omega arith)
from_front x ys above up zero (suc j) d less l = above j d (omega arith)
from_front x ys above up (suc i) zero d less l = absurd (omega arith)
from_front x ys above up (suc i) (suc j) d less l = up i j d (omega arith) (omega arith)

above_more : (x y : ℤ) (ys : List ℤ) → int_lt x y ≡ true → above_all x ys → above_all x (y ∷ ys)
above_more x y ys first rest zero e l = first
above_more x y ys first rest (suc k) e l = rest k e (omega arith)

-- what rises does so behind a test
module _ (p : ℤ → Bool) where
  kept_above : (x y : ℤ) (ys : List ℤ) (b : Bool) → p y ≡ b → int_lt x y ≡ true → above_all x (filter p ys) → above_all x (filter p (y ∷ ys))
  kept_above x y ys true is first rest = rw is (above_more x y (filter p ys) first rest)
  kept_above x y ys false is first rest = rw is rest

  above_kept : (x : ℤ) (ys : List ℤ) → above_all x ys → above_all x (filter p ys)
  above_kept x [] each = each
  above_kept x (y ∷ ys) each = kept_above x y ys (p y) refl (each 0 (pos 0) (omega arith)) (above_kept x ys (λ k e m. each (suc k) e (omega arith)))

  kept_rising : (x : ℤ) (xs : List ℤ) (b : Bool) → p x ≡ b → above_all x (filter p xs) → IsRising (filter p xs) → IsRising (filter p (x ∷ xs))
  kept_rising x xs true is above rest = rw is (from_front x (filter p xs) above rest)
  kept_rising x xs false is above rest = rw is rest

  pub rising_filter : (xs : List ℤ) → IsRising xs → IsRising (filter p xs)
  rising_filter [] up = up
  rising_filter (x ∷ xs) up =
      kept_rising x xs (p x) refl (above_kept x xs (λ k e m. up 0 (suc k) e (omega arith) (omega arith))) (rising_filter xs (tail_rises x xs up))

-- the rowids of a window are those of the rows that it covers
pub window_rows : (above : Option ℤ) (rows : List ℤ) (more : Bool) → IsRising rows → more ≡ nat_lt room (length (filter (is_above above) rows))
    → take room (filter (is_above above) rows) ≡ filter (is_within above (high_of more (take room (filter (is_above above) rows)))) rows
window_rows above rows true up is =
    let ys : List ℤ = filter (is_above above) rows in
    let long : room < length ys = grind (arith, is) in
    let size : length (take room ys) ≡ room = long_take room ys (omega arith) in
    let last : slice_index_or (take room ys) (length (take room ys) - 1) (pos 0) ≡ slice_index_or ys 1048575 (pos 0) =
    ap (λ n. slice_index_or (take room ys) (n - 1) (pos 0)) size ∙ within_take room ys 1048575 (pos 0) (omega arith) in
    sym (twice (is_above above) (is_upto (high_of true (take room ys))) rows
    ∙ ap (λ (x : ℤ). filter (λ y. not (int_lt x y)) ys) last
    ∙ below (pos 0) 1048575 ys (rising_filter (is_above above) rows up) (omega arith))
window_rows above rows false up is =
    let ys : List ℤ = filter (is_above above) rows in
    let short : length ys ≤ room = grind (arith, is) in
    take_all room ys short ∙ sym (twice (is_above above) (λ x. true) rows ∙ all_pass ys)

-- ---- one row more

short_by : (ys : List ℤ) → length (take room ys) < room → length ys < room
short_by ys l = ⊎_elim (λ less. less) (λ not_less. absurd (let same : length (take room ys) ≡ room = long_take room ys (omega arith) in omega arith)) (cases_lt (length ys) room)

long_by : (ys : List ℤ) → room ≤ length (take room ys) → room ≤ length ys
long_by ys l = ⊎_elim (λ (less : length ys < room). absurd (let same : take room ys ≡ ys = take_all room ys (omega arith) in omega (arith, ap length same))) (λ not_less. omega arith) (cases_lt (length ys) room)

module _ (above : Option ℤ) (rows : List ℤ) (rowid : ℤ) where
  abbrev before : List ℤ
  before = filter (is_above above) rows

  pub stays : is_above above rowid ≡ false → filter (is_above above) (rows ++ rowid ∷ []) ≡ before
  stays under = filter-append (is_above above) rows (rowid ∷ []) ∙ ap (λ b. before ++ cond b (rowid ∷ []) []) under ∙ append-nil before

  grows : is_above above rowid ≡ true → filter (is_above above) (rows ++ rowid ∷ []) ≡ before ++ rowid ∷ []
  grows over = filter-append (is_above above) rows (rowid ∷ []) ∙ ap (λ b. before ++ cond b (rowid ∷ []) []) over

  -- the window has no room
  pub full_rowids : is_above above rowid ≡ true → room ≤ length (take room before) → take room (filter (is_above above) (rows ++ rowid ∷ [])) ≡ take room before
  full_rowids over l = ap (take room) (grows over) ∙ take_front room before (rowid ∷ []) (long_by before l)

  pub full_more : is_above above rowid ≡ true → room ≤ length (take room before) → nat_lt room (length (filter (is_above above) (rows ++ rowid ∷ []))) ≡ true
  full_more over l = less_is room (length (filter (is_above above) (rows ++ rowid ∷ []))) (omega (arith, ap length (grows over), length-append before (rowid ∷ []), long_by before l))

  -- it has
  pub next_rowids : is_above above rowid ≡ true → length (take room before) < room → take room (filter (is_above above) (rows ++ rowid ∷ [])) ≡ take room before ++ rowid ∷ []
  next_rowids over l =
      let short : length before < room = short_by before l in
      ap (take room) (grows over) ∙ take_all room (before ++ rowid ∷ []) (omega (arith, length-append before (rowid ∷ []))) ∙ ap (λ xs. xs ++ rowid ∷ []) (sym (take_all room before (omega arith)))

  pub next_more : is_above above rowid ≡ true → length (take room before) < room → nat_lt room (length (filter (is_above above) (rows ++ rowid ∷ []))) ≡ nat_lt room (length before)
  next_more over l =
      let short : length before < room = short_by before l in
      not_less room (length (filter (is_above above) (rows ++ rowid ∷ []))) (omega (arith, ap length (grows over), length-append before (rowid ∷ [])))
      ∙ sym (not_less room (length before) (omega arith))
