-- A new trunk's page read back: its next trunk, its leaves, and that it is a trunk of the database.
use Rattle.std.proofs.Common.{◌≡◌, ◌⊎◌, inl, inr, ℕ, suc, zero, ◌+◌, ◌-◌, ◌*◌, ◌/◌, ◌≤◌, ◌<◌, ◌^◌, Bool, true, false, ◌||◌, ◌==◌, nat_le, nat_lt, if◌then◌else◌, List, ◌∷◌, ◌++◌, length, get_or, replicate, refl, sym, ◌∙◌, ap, arith, length-append, append_assoc}
use Rattle.std.specs.Prelude.{flat_map}
use Rattle.std.proofs.lemmas.List.{get_or-append_right}
use Rattle.std.proofs.lemmas.Nat.{from_be_bytes-to_be_bytes_4}
use Rattle.std.proofs.lemmas.Bool.Decides.{nat_tests}
use Rattle.std.specs.Int.{w32, to_be_bytes}
use Rattle.std.specs.List.{list_all}
use Rattle.btree_model.specs.Freelist.{is_trunk, leaf_numbers, next_trunk, numbers_at}
use Rattle.btree_model.specs.Range.{is_in_range}
use Rattle.db_format.specs.Bytes.{u32_at}
use Rattle.db_format.specs.Pages.{Pages}
use Rattle.map_pages.specs.Maps.{map_count, map_number, maps_of, span}
use Rattle.map_pages.specs.Trunks.{leaves_behind, map_trunk, numbers_from, room, trunk_from}
use Rattle.map_pages.proofs.MapLaws.{both, either, le_makes, maps_few, number_within}

-- ---- four bytes of a list

behind : (xs ys : List ℕ) (p k : ℕ) → length xs ≡ p → get_or (xs ++ ys) (p + k) 0 ≡ get_or ys k 0
behind xs ys p k is =
    let e : p + k - p ≡ k = omega arith in
    get_or-append_right xs ys p (p + k) 0 is (omega arith) ∙ ap (λ (n : ℕ). get_or ys n 0) e

just_behind : (xs ys : List ℕ) (p : ℕ) → length xs ≡ p → get_or (xs ++ ys) p 0 ≡ get_or ys 0 0
just_behind xs ys p is = let e : p ≡ p + 0 = omega arith in ap (λ (n : ℕ). get_or (xs ++ ys) n 0) e ∙ behind xs ys p 0 is

-- a number behind a list
u32_behind : (xs ys : List ℕ) (p : ℕ) → length xs ≡ p → u32_at (xs ++ ys) p ≡ u32_at ys 0
u32_behind xs ys p is =
    let e : p + 2 + 1 ≡ p + 3 = omega arith in
    let last : get_or (xs ++ ys) (p + 2 + 1) 0 ≡ get_or ys 3 0 = ap (λ (n : ℕ). get_or (xs ++ ys) n 0) e ∙ behind xs ys p 3 is in
    λ i. (just_behind xs ys p is i * 256 + behind xs ys p 1 is i) * 65536 + (behind xs ys p 2 is i * 256 + last i)

u32_written : (n : ℕ) (more : List ℕ) → n < 2 ^ 32 → u32_at (to_be_bytes w32 n ++ more) 0 ≡ n
u32_written n more fits = omega (arith, from_be_bytes-to_be_bytes_4 n fits)

-- map numbers of a database
module _ (usable count : ℕ) (small : count < 2 ^ 32) where
  pub number_small : (k : ℕ) → k < map_count usable count → map_number usable k < 2 ^ 32
  number_small k lt = by (either (nat_le 2 count))
    where
      by : (nat_le 2 count ≡ true) ⊎ (nat_le 2 count ≡ false) → map_number usable k < 2 ^ 32
      by (inl some) =
          let two : 2 ≤ count = grind (arith, nat_tests) in
          omega (arith, small, number_within usable count k two lt)
      by (inr none) =
          let no : map_count usable count ≡ 0 = ap (λ (b : Bool). if b then (count - 2) / span usable + 1 else 0) none in
          absurd (omega (arith, no, lt))

  -- numbers that were written are read, whatever stands before and behind them
  numbers_read : (k n at : ℕ) (pre rest : List ℕ) → length pre ≡ at → k + n ≤ map_count usable count
      → numbers_at (pre ++ (flat_map (to_be_bytes w32) (numbers_from usable k n) ++ rest)) at n ≡ numbers_from usable k n
  numbers_read k zero at pre rest long within = refl
  numbers_read k (suc n) at pre rest long within =
      let more : List ℕ = flat_map (to_be_bytes w32) (numbers_from usable (k + 1) n) in
      let number : List ℕ = to_be_bytes w32 (map_number usable k) in
      let low : map_number usable k < 2 ^ 32 = number_small k (omega (arith, within)) in
      let four : length (pre ++ number) ≡ at + 4 = omega (arith, length-append pre number, long) in
      let head : u32_at (pre ++ ((number ++ more) ++ rest)) at ≡ map_number usable k =
      u32_behind pre ((number ++ more) ++ rest) at long ∙ ap (λ (l : List ℕ). u32_at l 0) (append_assoc number more rest) ∙ u32_written (map_number usable k) (more ++ rest) low in
      let tail : numbers_at (pre ++ ((number ++ more) ++ rest)) (at + 4) n ≡ numbers_from usable (k + 1) n =
      ap (λ (l : List ℕ). numbers_at (pre ++ l) (at + 4) n) (append_assoc number more rest)
      ∙ ap (λ (l : List ℕ). numbers_at l (at + 4) n) (sym (append_assoc pre number (more ++ rest)))
      ∙ numbers_read (k + 1) n (at + 4) (pre ++ number) rest four (omega (arith, within)) in
      λ i. head i ∷ tail i

-- ---- the page of a new trunk

module _ (usable maps old k : ℕ) where
  abbrev bytes : List ℕ
  bytes = map_trunk usable maps old k

  abbrev many : ℕ
  many = leaves_behind usable maps k

  pub trunk_next : trunk_from usable maps old (k + room usable + 1) < 2 ^ 32 → next_trunk bytes ≡ trunk_from usable maps old (k + room usable + 1)
  trunk_next fits = omega (arith, from_be_bytes-to_be_bytes_4 (trunk_from usable maps old (k + room usable + 1)) fits)

  trunk_many : many < 2 ^ 32 → u32_at bytes 4 ≡ many
  trunk_many fits = omega (arith, from_be_bytes-to_be_bytes_4 many fits)

  trunk_leaves : (count : ℕ) → count < 2 ^ 32 → maps ≡ map_count usable count → many < 2 ^ 32 → k + 1 + many ≤ maps → leaf_numbers bytes ≡ numbers_from usable (k + 1) many
  trunk_leaves count small are fits within =
      ap (λ (n : ℕ). numbers_at bytes 8 n) (trunk_many fits)
      ∙ numbers_read usable count small (k + 1) many 8 (to_be_bytes w32 (trunk_from usable maps old (k + room usable + 1)) ++ to_be_bytes w32 many) (replicate (usable - (8 + 4 * many)) 0) refl
      (omega (arith, within, are))

-- ---- it is a trunk of the database

in_range : (pages : Pages) (n : ℕ) → 2 ≤ n → n ≤ pages.count → is_in_range pages n ≡ true
in_range pages n low high = both _ _ (le_makes 2 n low) (le_makes n pages.count high)

or_second : (a b : Bool) → b ≡ true → (a || b) ≡ true
or_second true b is = refl
or_second false b is = is

-- a number that another page may name, or 0
abbrev pub names_well : Pages → ℕ → Bool
names_well pages n = n == 0 || is_in_range pages n

well_small : (pages : Pages) (n : ℕ) → pages.count < 2 ^ 32 → names_well pages n ≡ true → n < 2 ^ 32
well_small pages n small well = grind (arith, nat_tests)

lt_is : (a b : ℕ) → nat_lt a b ≡ true → a < b
lt_is a b is = grind (arith, nat_tests)

module _ (pages : Pages) (small : pages.count < 2 ^ 32) where
  -- where there is a map page, there are two pages
  pub maps_some : (k : ℕ) → k < maps_of pages → 2 ≤ pages.count
  maps_some k lt = by (either (nat_le 2 pages.count))
    where
      by : (nat_le 2 pages.count ≡ true) ⊎ (nat_le 2 pages.count ≡ false) → 2 ≤ pages.count
      by (inl some) = grind (arith, nat_tests)
      by (inr none) =
          let no : maps_of pages ≡ 0 = ap (λ (b : Bool). if b then (pages.count - 2) / span pages.usable + 1 else 0) none in
          absurd (omega (arith, no, lt))

  pub number_in_range : (k : ℕ) → k < maps_of pages → is_in_range pages (map_number pages.usable k) ≡ true
  number_in_range k lt = in_range pages (map_number pages.usable k) (omega arith) (number_within pages.usable pages.count k (maps_some k lt) lt)

  numbers_in_range : (k n : ℕ) → k + n ≤ maps_of pages → list_all (is_in_range pages) (numbers_from pages.usable k n) ≡ true
  numbers_in_range k zero within = refl
  numbers_in_range k (suc n) within =
      both _ _ (number_in_range k (omega (arith, within))) (numbers_in_range (k + 1) n (omega (arith, within)))

  pub from_well : (old k : ℕ) → names_well pages old ≡ true → names_well pages (trunk_from pages.usable (maps_of pages) old k) ≡ true
  from_well old k well = by (either (nat_lt k (maps_of pages)))
    where
      by : (nat_lt k (maps_of pages) ≡ true) ⊎ (nat_lt k (maps_of pages) ≡ false) → names_well pages (trunk_from pages.usable (maps_of pages) old k) ≡ true
      by (inl more) =
          ap (λ (b : Bool). names_well pages (if b then map_number pages.usable k else old)) more ∙ or_second _ _ (number_in_range k (lt_is k (maps_of pages) more))
      by (inr last) = ap (λ (b : Bool). names_well pages (if b then map_number pages.usable k else old)) last ∙ well

  module _ (old k : ℕ) (well : names_well pages old ≡ true) (lt : k < maps_of pages) where
    abbrev page : List ℕ
    page = map_trunk pages.usable (maps_of pages) old k

    abbrev leafs : ℕ
    leafs = leaves_behind pages.usable (maps_of pages) k

    next_well : names_well pages (trunk_from pages.usable (maps_of pages) old (k + room pages.usable + 1)) ≡ true
    next_well = from_well old (k + room pages.usable + 1) well

    leafs_within : k + 1 + leafs ≤ maps_of pages
    leafs_within = omega (arith, lt)

    leafs_small : leafs < 2 ^ 32
    leafs_small = omega (arith, leafs_within, maps_few pages.usable pages.count, small)

    pub new_next : next_trunk page ≡ trunk_from pages.usable (maps_of pages) old (k + room pages.usable + 1)
    new_next = trunk_next pages.usable (maps_of pages) old k (well_small pages (trunk_from pages.usable (maps_of pages) old (k + room pages.usable + 1)) small next_well)

    pub new_leaves : leaf_numbers page ≡ numbers_from pages.usable (k + 1) leafs
    new_leaves = trunk_leaves pages.usable (maps_of pages) old k pages.count small refl leafs_small leafs_within

    pub new_trunk_is : is_trunk pages page ≡ true
    new_trunk_is =
        let few : leafs ≤ pages.usable / 4 - 2 = omega arith in
        both _ _ (both _ _
        (ap (λ (n : ℕ). nat_le n (pages.usable / 4 - 2)) (trunk_many pages.usable (maps_of pages) old k leafs_small) ∙ le_makes leafs (pages.usable / 4 - 2) few)
        (ap (λ (n : ℕ). names_well pages n) new_next ∙ next_well))
        (ap (λ (l : List ℕ). list_all (is_in_range pages) l) new_leaves ∙ numbers_in_range (k + 1) leafs leafs_within)
