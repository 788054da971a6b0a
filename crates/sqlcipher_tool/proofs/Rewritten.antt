-- Which pages are written where map pages go onto the freelist.
use Rattle.std.proofs.Common.{◌≡◌, ◌⊎◌, inl, inr, ⊎_elim, ◌==◌, ◌≤◌, ◌<◌, ◌+◌, ◌-◌, ◌*◌, ◌/◌, ◌&&◌, ◌||◌, nat_le, if◌then◌else◌, ℕ, Bool, true, false, refl, sym, ap, ◌∙◌, arith}
use Rattle.std.proofs.Math.Nat.{mul-div_cancel}
use Rattle.map_pages.specs.Maps.{is_map_page, map_count, map_number, span}
use Rattle.map_pages.specs.Trunks.{is_new_trunk}
use Rattle.map_pages.proofs.MapLaws.{and_first, and_second, both, either, eq_is, le_is, le_makes, number_is_map, number_within, numbers_all}
use Rattle.pager.specs.Pages.{is_page_number}
use Rattle.pager.proofs.BatchLemmas.{number_is}
use Rattle.settle_job.specs.Put.{IsNoTrunk}
use Rattle.sqlcipher_tool.specs.Maps.{is_rewritten}

differ : true ≡ false → ⊥
differ is = cc

or_right : (a b : Bool) → b ≡ true → (a || b) ≡ true
or_right true b is = refl
or_right false b is = is

or_none : (a b : Bool) → (a || b) ≡ false → (a ≡ false) × (b ≡ false)
or_none true b is = cc
or_none false b is = (refl, is)

-- a database with a map page has a second page
pub two_pages : (usable count k : ℕ) → k < map_count usable count → 2 ≤ count
two_pages usable count k less = ⊎_elim (λ (some : nat_le 2 count ≡ true). le_is 2 count some) (λ (none : nat_le 2 count ≡ false). absurd (omega (arith, less, no_maps none))) (either (nat_le 2 count))
  where
    no_maps : nat_le 2 count ≡ false → map_count usable count ≡ 0
    no_maps none = ap (λ (b : Bool). if b then (count - 2) / span usable + 1 else 0) none

-- map page k is the one that its number says
pub number_back : (usable k : ℕ) → (map_number usable k - 2) / span usable ≡ k
number_back usable k =
    let e : map_number usable k - 2 ≡ k * span usable = omega arith in
    ap (λ (n : ℕ). n / span usable) e ∙ mul-div_cancel k {n = span usable} (omega arith)

-- a new trunk is written
pub trunk_rewritten : (usable count k : ℕ) → k < map_count usable count → is_new_trunk usable k ≡ true → is_rewritten usable count (map_number usable k) ≡ true
trunk_rewritten usable count k less is =
    let n : ℕ = map_number usable k in
    or_right (n == 1) _
    (both (is_map_page usable n && nat_le n count) (is_new_trunk usable ((n - 2) / span usable))
    (both (is_map_page usable n) (nat_le n count) (number_is_map usable k) (le_makes n count (number_within usable count k (two_pages usable count k less) less)))
    (ap (is_new_trunk usable) (number_back usable k) ∙ is))

-- what is not written is no new trunk
pub no_trunk : (usable count m : ℕ) → is_rewritten usable count m ≡ false → IsNoTrunk usable (map_count usable count) m
no_trunk usable count m none k less is = ⊎_elim
    (λ (same : (m == map_number usable k) ≡ true).
    absurd (differ (sym (trunk_rewritten usable count k less is) ∙ (ap (is_rewritten usable count) (sym (eq_is m (map_number usable k) same)) ∙ none))))
    (λ other. other) (either (m == map_number usable k))

-- nor is page 1
pub first_no_trunk : (usable count : ℕ) → IsNoTrunk usable (map_count usable count) 1
first_no_trunk usable count k less is = ⊎_elim
    (λ (same : (1 == map_number usable k) ≡ true). absurd (omega (arith, eq_is 1 (map_number usable k) same)))
    (λ other. other) (either (1 == map_number usable k))

-- a page that is written is page 1 or a new trunk
pub rewritten_is : (usable count n : ℕ) → is_rewritten usable count n ≡ true
    → (n ≡ 1) ⊎ ((k : ℕ) × (k < map_count usable count) × (is_new_trunk usable k ≡ true) × (n ≡ map_number usable k) × (n ≤ count))
rewritten_is usable count n is = ⊎_elim
    (λ (one : (n == 1) ≡ true). inl (eq_is n 1 one))
    (λ (other : (n == 1) ≡ false).
    let three : ((is_map_page usable n && nat_le n count) && is_new_trunk usable ((n - 2) / span usable)) ≡ true =
    ap (λ (b : Bool). b || ((is_map_page usable n && nat_le n count) && is_new_trunk usable ((n - 2) / span usable))) (sym other) ∙ is in
    let two = and_first (is_map_page usable n && nat_le n count) (is_new_trunk usable ((n - 2) / span usable)) three in
    let within : n ≤ count = le_is n count (and_second (is_map_page usable n) (nat_le n count) two) in
    let one = numbers_all usable count n (and_first (is_map_page usable n) (nat_le n count) two) within in
    inr ((n - 2) / span usable, one.1, and_second (is_map_page usable n && nat_le n count) (is_new_trunk usable ((n - 2) / span usable)) three, one.0, within))
    (either (n == 1))

-- and a page of the file
pub rewritten_within : (usable count n : ℕ) → 1 ≤ count → is_rewritten usable count n ≡ true → is_page_number count n ≡ true
rewritten_within usable count n some is = ⊎_elim
    (λ (one : n ≡ 1). number_is count n (omega (arith, one)) (omega (arith, one, some)))
    (λ trunk. number_is count n (omega (arith, trunk.3)) trunk.4)
    (rewritten_is usable count n is)

-- A transaction that first touched page 1 alone, and then the new trunks, touched what is written.
pub touched_so : (usable count : ℕ) (touched mid : ℕ → Bool) → 1 ≤ count
    → ((m : ℕ) → is_page_number count m ≡ true → mid m ≡ (m == 1))
    → ((k : ℕ) → k < map_count usable count → is_new_trunk usable k ≡ true → touched (map_number usable k) ≡ true)
    → ((m : ℕ) → is_page_number count m ≡ true → IsNoTrunk usable (map_count usable count) m → touched m ≡ mid m)
    → (m : ℕ) → is_page_number count m ≡ true → touched m ≡ is_rewritten usable count m
touched_so usable count touched mid some first trunks others m num = ⊎_elim
    (λ (is : is_rewritten usable count m ≡ true). (⊎_elim
    (λ (one : m ≡ 1).
    let there : is_page_number count 1 ≡ true = number_is count 1 (omega arith) some in
    ap touched one ∙ (others 1 there (first_no_trunk usable count) ∙ first 1 there))
    (λ trunk. ap touched trunk.3 ∙ trunks trunk.0 trunk.1 trunk.2)
    (rewritten_is usable count m is)) ∙ sym is)
    (λ (none : is_rewritten usable count m ≡ false).
    others m num (no_trunk usable count m none) ∙ (first m num ∙ ((or_none (m == 1) _ none).0 ∙ sym none)))
    (either (is_rewritten usable count m))
