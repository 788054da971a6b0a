-- The map pages as what a walk of the freelist meets.
use Rattle.std.proofs.Common.{◌≡◌, ◌⊎◌, inl, inr, ℕ, suc, zero, ◌+◌, ◌-◌, ◌*◌, ◌/◌, ◌%◌, ◌≤◌, ◌<◌, Bool, true, false, ◌||◌, ◌==◌, nat_le, if◌then◌else◌, List, [], ◌∷◌, ◌++◌, length, map, refl, sym, ◌∙◌, ap, arith}
use Rattle.std.proofs.Math.Nat.{add-mod_right}
use Rattle.std.proofs.lemmas.Bool.Decides.{nat_tests}
use Rattle.std.proofs.lemmas.Bool.{eqb-true, eq-eqb}
use Rattle.std.proofs.lemmas.List.FromFn.{length-map-range_with_len, map-range_with_len_more}
use Rattle.std.proofs.lemmas.Nat.{div-add-mod', mod-mul-add}
use Rattle.std.specs.List.{range_with_len}
use Rattle.db_format.specs.Pages.{Pages, nothing}
use Rattle.db_format.specs.declared.defect.Defect.TheVariants.{PageTwice}
use Rattle.btree_model.specs.Finding.{Finding, fault, is_sound, leaf, leaves, place, places, entries}
use Rattle.btree_model.specs.Freelist.{leaves_of}
use Rattle.btree_model.specs.Walk.{is_met}
use Rattle.btree_model.proofs.LeafLemmas.{is_in, no_leaf}
use Rattle.map_pages.specs.Maps.{is_map, is_map_page, map_number, maps_of, span}
use Rattle.map_pages.specs.Trunks.{findings_from, is_new_trunk, map_finding, numbers_from, room}
use Rattle.map_pages.proofs.MapLaws.{and_first, and_second, both, either, eq_is, le_is, le_makes, number_is_map, number_within, numbers_all, numbers_rise}

-- ---- which of them are trunks

-- a span of trunks behind a trunk is one
pub trunk_again : (usable k : ℕ) → is_new_trunk usable k ≡ true → is_new_trunk usable (k + room usable + 1) ≡ true
trunk_again usable k is =
    let e : k + room usable + 1 ≡ k + (room usable + 1) = omega arith in
    ap (λ (n : ℕ). n % (room usable + 1) == 0) e ∙ ap (λ (n : ℕ). n == 0) (add-mod_right k (room usable + 1)) ∙ is

-- and those up to it are leaves
pub leaf_between : (usable k d : ℕ) → is_new_trunk usable k ≡ true → 1 ≤ d → d ≤ room usable → is_new_trunk usable (k + d) ≡ false
leaf_between usable k d is some few =
    let none : k % (room usable + 1) ≡ 0 = eq_is _ _ is in
    let whole = div-add-mod' k (room usable + 1) in
    let e : k + d ≡ k / (room usable + 1) * (room usable + 1) + d = omega (arith, whole, none) in
    let m : (k + d) % (room usable + 1) ≡ d = ap (λ (n : ℕ). n % (room usable + 1)) e ∙ mod-mul-add (k / (room usable + 1)) (room usable + 1) d (omega (arith, few)) in
    ap (λ (n : ℕ). n == 0) m ∙ other d some
  where
    other : (n : ℕ) → 1 ≤ n → (n == 0) ≡ false
    other n low = grind (arith, nat_tests)

-- ---- lists of them

pub map_join : {X : Type 0} (f : ℕ → X) (a m n : ℕ) → map f (range_with_len a (m + n)) ≡ map f (range_with_len a m) ++ map f (range_with_len (a + m) n)
map_join f a zero n = let e : a + 0 ≡ a = omega arith in let z : 0 + n ≡ n = omega arith in ap (λ (k : ℕ). map f (range_with_len a k)) z ∙ ap (λ (k : ℕ). map f (range_with_len k n)) (sym e)
map_join f a (suc m) n =
    let e : suc m + n ≡ suc (m + n) = omega arith in
    let s : a + 1 + m ≡ a + suc m = omega arith in
    ap (λ (k : ℕ). map f (range_with_len a k)) e
    ∙ ap (λ (l : List _). f a ∷ l) (map_join f (a + 1) m n ∙ ap (λ (k : ℕ). map f (range_with_len (a + 1) m) ++ map f (range_with_len k n)) s)

place_or_leaf : (b : Bool) (n : ℕ) (rest : List Finding) → places ((if b then place n else leaf n) ∷ rest) ≡ n ∷ places rest
place_or_leaf true n rest = refl
place_or_leaf false n rest = refl

sound_either : (b : Bool) (n : ℕ) (rest : List Finding) → is_sound ((if b then place n else leaf n) ∷ rest) ≡ is_sound rest
sound_either true n rest = refl
sound_either false n rest = refl

no_entry : (b : Bool) (n : ℕ) (rest : List Finding) → entries ((if b then place n else leaf n) ∷ rest) ≡ entries rest
no_entry true n rest = refl
no_entry false n rest = refl

module _ (usable : ℕ) where
  pub places_from : (k n : ℕ) → places (findings_from usable k n) ≡ numbers_from usable k n
  places_from k zero = refl
  places_from k (suc n) =
      place_or_leaf (is_new_trunk usable k) (map_number usable k) (findings_from usable (k + 1) n) ∙ ap (λ (l : List ℕ). map_number usable k ∷ l) (places_from (k + 1) n)

  pub sound_from : (k n : ℕ) → is_sound (findings_from usable k n) ≡ true
  sound_from k zero = refl
  sound_from k (suc n) = sound_either (is_new_trunk usable k) (map_number usable k) (findings_from usable (k + 1) n) ∙ sound_from (k + 1) n

  pub entries_from : (k n : ℕ) → entries (findings_from usable k n) ≡ []
  entries_from k zero = refl
  entries_from k (suc n) = no_entry (is_new_trunk usable k) (map_number usable k) (findings_from usable (k + 1) n) ∙ entries_from (k + 1) n

  pub length_from : (k n : ℕ) → length (places (findings_from usable k n)) ≡ n
  length_from k n = ap length (places_from k n) ∙ length-map-range_with_len (map_number usable) k n

  below : (a b : ℕ) → a < b → (a == b) ≡ false
  below a b less = grind (arith, nat_tests)

  above : (a b : ℕ) → a < b → (b == a) ≡ false
  above a b less = grind (arith, nat_tests)

  number_below : (j k : ℕ) → j < k → (map_number usable j == map_number usable k) ≡ false
  number_below j k less = below _ _ (omega (arith, numbers_rise usable j k less))

  number_above : (j k : ℕ) → j < k → (map_number usable k == map_number usable j) ≡ false
  number_above j k less = above _ _ (omega (arith, numbers_rise usable j k less))

  -- a map page behind them is none of them
  pub unlisted : (a n k : ℕ) → a + n ≤ k → is_in (numbers_from usable a n) (map_number usable k) ≡ false
  unlisted a zero k behind = refl
  unlisted a (suc n) k behind =
      ap (λ (b : Bool). b || is_in (numbers_from usable (a + 1) n) (map_number usable k)) (number_below a k (omega (arith, behind))) ∙ unlisted (a + 1) n k (omega (arith, behind))

  or_more : (a b : Bool) → b ≡ true → (a || b) ≡ true
  or_more true b is = refl
  or_more false b is = is

  or_one : (a b : Bool) → a ≡ true → (a || b) ≡ true
  or_one true b is = refl
  or_one false b is = cc

  listed : (a n k : ℕ) → a ≤ k → k < a + n → is_in (numbers_from usable a n) (map_number usable k) ≡ true
  listed a zero k low high = absurd (omega (arith, low, high))
  listed a (suc n) k low high = by (either (a == k)) (λ more. listed (a + 1) n k more (omega (arith, high)))
    where
      by : ((a == k) ≡ true) ⊎ ((a == k) ≡ false) → (a + 1 ≤ k → is_in (numbers_from usable (a + 1) n) (map_number usable k) ≡ true)
          → is_in (numbers_from usable a (suc n)) (map_number usable k) ≡ true
      by (inl is) later = or_one (map_number usable a == map_number usable k) (is_in (numbers_from usable (a + 1) n) (map_number usable k)) (eq-eqb (map_number usable a) (map_number usable k) (ap (λ (m : ℕ). map_number usable m) (eqb-true a k is)))
      by (inr other) later =
          let more : a + 1 ≤ k = grind (arith, nat_tests, low) in
          or_more (map_number usable a == map_number usable k) (is_in (numbers_from usable (a + 1) n) (map_number usable k)) (later more)

  -- ---- the leaves of a trunk

  pub met_from : (j k : ℕ) → j ≤ k → is_met nothing (findings_from usable 0 j) (map_number usable k) ≡ false
  met_from j k low =
      let is : 0 + j ≤ k = omega (arith, low) in
      ap (λ (l : List ℕ). is_in l (map_number usable k) || false) (places_from 0 j) ∙ ap (λ (b : Bool). b || false) (unlisted 0 j k is)

  pub one_more : (j : ℕ) → findings_from usable 0 j ++ map_finding usable j ∷ [] ≡ findings_from usable 0 (j + 1)
  one_more j = sym (map-range_with_len_more (map_finding usable) 0 j j (omega arith))

  finding_is : (j : ℕ) (b : Bool) → is_new_trunk usable j ≡ b → map_finding usable j ≡ (if b then place (map_number usable j) else leaf (map_number usable j))
  finding_is j b is = ap (λ (c : Bool). if c then place (map_number usable j) else leaf (map_number usable j)) is

  pub trunk_finding : (j : ℕ) → is_new_trunk usable j ≡ true → map_finding usable j ≡ place (map_number usable j)
  trunk_finding j is = finding_is j true is

  pub leaves_listed : (n j : ℕ) → ((i : ℕ) → j ≤ i → i < j + n → is_new_trunk usable i ≡ false)
      → leaves_of nothing (findings_from usable 0 j) (numbers_from usable j n) ≡ findings_from usable j n
  leaves_listed zero j leafs = refl
  leaves_listed (suc n) j leafs =
      let m : ℕ = map_number usable j in
      let met : List Finding = findings_from usable 0 j in
      let rest : List ℕ = numbers_from usable (j + 1) n in
      let is : map_finding usable j ≡ leaf (map_number usable j) = finding_is j false (leafs j (omega arith) (omega arith)) in
      ap (λ (b : Bool). leaf m ∷ ((if b then fault (PageTwice m) ∷ [] else []) ++ leaves_of nothing (met ++ leaf m ∷ []) rest)) (met_from j j (omega arith))
      ∙ ap (λ (l : List Finding). leaf m ∷ leaves_of nothing l rest) (ap (λ (x : Finding). met ++ x ∷ []) (sym is) ∙ one_more j)
      ∙ ap (λ (l : List Finding). leaf m ∷ l) (leaves_listed n (j + 1) (λ i low high. leafs i (omega (arith, low)) (omega (arith, high))))
      ∙ ap (λ (x : Finding). x ∷ findings_from usable (j + 1) n) (sym is)

-- ---- as tests of pages

module _ (pages : Pages) where
  some_pages : (k : ℕ) → k < maps_of pages → 2 ≤ pages.count
  some_pages k less = by (either (nat_le 2 pages.count))
    where
      by : (nat_le 2 pages.count ≡ true) ⊎ (nat_le 2 pages.count ≡ false) → 2 ≤ pages.count
      by (inl two) = le_is 2 pages.count two
      by (inr none) =
          let nil : maps_of pages ≡ 0 = ap (λ (b : Bool). if b then (pages.count - 2) / span pages.usable + 1 else 0) none in
          absurd (omega (arith, nil, less))

  pub number_is : (k : ℕ) → k < maps_of pages → is_map pages (map_number pages.usable k) ≡ true
  number_is k less = both _ _ (number_is_map pages.usable k) (le_makes _ _ (number_within pages.usable pages.count k (some_pages k less) less))

  numbers_are : (a m n : ℕ) → a + m ≤ maps_of pages → is_map pages n ≡ false → is_in (numbers_from pages.usable a m) n ≡ false
  numbers_are a zero n within none = refl
  numbers_are a (suc m) n within none = by (map_number pages.usable a == n) refl (numbers_are (a + 1) m n (omega (arith, within)) none)
    where
      by : (b : Bool) → (map_number pages.usable a == n) ≡ b → is_in (numbers_from pages.usable (a + 1) m) n ≡ false
          → (b || is_in (numbers_from pages.usable (a + 1) m) n) ≡ false
      by true is later =
          let same : is_map pages n ≡ true = ap (λ (k : ℕ). is_map pages k) (sym (eqb-true _ n is)) ∙ number_is a (omega (arith, within)) in
          cc
      by false is later = later

  -- their numbers are those of the map pages
  pub maps_are : (n : ℕ) → is_in (numbers_from pages.usable 0 (maps_of pages)) n ≡ is_map pages n
  maps_are n = by (either (is_map pages n))
    where
      by : (is_map pages n ≡ true) ⊎ (is_map pages n ≡ false) → is_in (numbers_from pages.usable 0 (maps_of pages)) n ≡ is_map pages n
      by (inl one) =
          let all = numbers_all pages.usable pages.count n (and_first _ _ one) (le_is n pages.count (and_second (is_map_page pages.usable n) _ one)) in
          ap (λ (k : ℕ). is_in (numbers_from pages.usable 0 (maps_of pages)) k) all.0
          ∙ listed pages.usable 0 (maps_of pages) ((n - 2) / span pages.usable) (omega arith) (omega (arith, all.1)) ∙ sym one
      by (inr none) = numbers_are 0 (maps_of pages) n (omega arith) none ∙ sym none

  -- a page that is none of them is no leaf
  pub no_map_leaf : (n : ℕ) → is_map pages n ≡ false → is_in (leaves (findings_from pages.usable 0 (maps_of pages))) n ≡ false
  no_map_leaf n none =
      no_leaf (findings_from pages.usable 0 (maps_of pages)) n (ap (λ (l : List ℕ). is_in l n) (places_from pages.usable 0 (maps_of pages)) ∙ maps_are n ∙ none)

-- nor is a new trunk
pub trunk_no_leaf : (usable a n k : ℕ) → is_new_trunk usable k ≡ true → is_in (leaves (findings_from usable a n)) (map_number usable k) ≡ false
trunk_no_leaf usable a zero k is = refl
trunk_no_leaf usable a (suc n) k is = by (is_new_trunk usable a) refl (either (a == k)) (trunk_no_leaf usable (a + 1) n k is)
  where
    side : (a == k) ≡ false → (nat_le a k ≡ true) ⊎ (nat_le a k ≡ false) → (map_number usable a == map_number usable k) ≡ false
    side other (inl low) = let less : a < k = grind (arith, nat_tests) in number_below usable a k less
    side other (inr high) = let less : k < a = grind (arith, nat_tests) in number_above usable k a less

    by : (b : Bool) → is_new_trunk usable a ≡ b → ((a == k) ≡ true) ⊎ ((a == k) ≡ false)
        → is_in (leaves (findings_from usable (a + 1) n)) (map_number usable k) ≡ false
        → is_in (leaves ((if b then place (map_number usable a) else leaf (map_number usable a)) ∷ findings_from usable (a + 1) n)) (map_number usable k) ≡ false
    by true trunk same later = later
    by false trunk (inl same) later = let one : is_new_trunk usable a ≡ true = ap (λ (j : ℕ). is_new_trunk usable j) (eqb-true a k same) ∙ is in cc
    by false trunk (inr other) later =
        ap (λ (b : Bool). b || is_in (leaves (findings_from usable (a + 1) n)) (map_number usable k)) (side other (either (nat_le a k))) ∙ later
