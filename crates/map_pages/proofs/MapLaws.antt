-- The map pages are those with the numbers of 0, 1, .. below their count, which rise.
use Rattle.std.proofs.Common.{◌≡◌, ◌⊎◌, inl, inr, ℕ, ◌+◌, ◌-◌, ◌*◌, ◌/◌, ◌%◌, ◌≤◌, ◌<◌, Bool, true, false, ◌&&◌, ◌==◌, nat_le, if◌then◌else◌, refl, ◌∙◌, ap, arith}
use Rattle.std.proofs.Math.Nat.{div-add-mod, div-le_self, div-mul-le_self, mul-div-le, mul-le-mul_right, mul-mod_left, mul_comm, suc-mul}
use Rattle.std.proofs.lemmas.Nat.{le-div}
use Rattle.std.proofs.lemmas.Bool.Decides.{nat_tests}
use Rattle.map_pages.specs.Maps.{is_map_page, map_count, map_number, span}

pub eq_makes : (a b : ℕ) → a ≡ b → (a == b) ≡ true
eq_makes a b is = grind (arith, nat_tests)

pub eq_is : (a b : ℕ) → (a == b) ≡ true → a ≡ b
eq_is a b is = grind (arith, nat_tests)

pub le_is : (a b : ℕ) → nat_le a b ≡ true → a ≤ b
le_is a b is = grind (arith, nat_tests)

pub le_makes : (a b : ℕ) → a ≤ b → nat_le a b ≡ true
le_makes a b le = grind (arith, nat_tests)

pub both : (a b : Bool) → a ≡ true → b ≡ true → (a && b) ≡ true
both a b p q = cc

pub and_first : (a b : Bool) → (a && b) ≡ true → a ≡ true
and_first true b is = refl
and_first false b is = cc

pub and_second : (a b : Bool) → (a && b) ≡ true → b ≡ true
and_second true b is = is
and_second false b is = cc

pub either : (b : Bool) → (b ≡ true) ⊎ (b ≡ false)
either true = inl refl
either false = inr refl

pub number_is_map : (usable k : ℕ) → is_map_page usable (map_number usable k) ≡ true
number_is_map usable k =
    let e : map_number usable k - 2 ≡ k * span usable = omega arith in
    both _ _ (le_makes 2 (map_number usable k) (omega arith))
    (eq_makes _ _ (ap (λ (n : ℕ). n % span usable) e ∙ mul-mod_left k (span usable)))

-- map numbers rise, a span at a time
pub numbers_rise : (usable j k : ℕ) → j < k → map_number usable j + span usable ≤ map_number usable k
numbers_rise usable j k lt = omega (arith, mul-le-mul_right (span usable) lt, suc-mul j (span usable))

count_many : (usable count : ℕ) → 2 ≤ count → map_count usable count ≡ (count - 2) / span usable + 1
count_many usable count some = ap (λ (b : Bool). if b then (count - 2) / span usable + 1 else 0) (le_makes 2 count some)

-- there are no more map pages than pages
pub maps_few : (usable count : ℕ) → map_count usable count ≤ count
maps_few usable count = go (either (nat_le 2 count))
  where
    go : (nat_le 2 count ≡ true) ⊎ (nat_le 2 count ≡ false) → map_count usable count ≤ count
    go (inl some) = omega (arith, ap (λ (b : Bool). if b then (count - 2) / span usable + 1 else 0) some, div-le_self (count - 2) (span usable), le_is 2 count some)
    go (inr none) = omega (arith, ap (λ (b : Bool). if b then (count - 2) / span usable + 1 else 0) none)

-- map page k is a page of the database
pub number_within : (usable count k : ℕ) → 2 ≤ count → k < map_count usable count → map_number usable k ≤ count
number_within usable count k some lt =
    let many = count_many usable count some in
    let below : k ≤ (count - 2) / span usable = omega (arith, many, lt) in
    omega (arith, some, mul-le-mul_right (span usable) below, mul_comm (span usable) ((count - 2) / span usable), mul-div-le (count - 2) (span usable))

-- and each map page of the database is one of them
pub numbers_all : (usable count n : ℕ) → is_map_page usable n ≡ true → n ≤ count → (n ≡ map_number usable ((n - 2) / span usable)) × ((n - 2) / span usable < map_count usable count)
numbers_all usable count n is le =
    let low = le_is 2 n (and_first _ _ is) in
    let none : (n - 2) % span usable ≡ 0 = eq_is _ _ (and_second (nat_le 2 n) _ is) in
    let whole = div-add-mod (n - 2) (span usable) in
    let many = count_many usable count (omega (arith, low, le)) in (
      omega (arith, low, none, whole, mul_comm (span usable) ((n - 2) / span usable)),
      omega (arith, many, le-div ((n - 2) / span usable) (count - 2) (span usable) (omega arith) (omega (arith, le, div-mul-le_self (n - 2) (span usable)))),
    )
