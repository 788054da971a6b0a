-- Pages counted by a test: each page more for which it holds is one less that is left.
use Rattle.std.proofs.Common.{◌≡◌, ℕ, suc, zero, ◌+◌, ◌≤◌, ◌<◌, ◌^◌, Bool, true, false, not, ◌||◌, ◌==◌, cond, List, [], ◌∷◌, refl, sym, ◌∙◌, ap, arith}
use Rattle.std.specs.Prelude.{count_by}
use Rattle.std.specs.List.{range_with_len}
use Rattle.std.proofs.lemmas.Bool.Decides.{nat_tests}
use Rattle.std.proofs.lemmas.Bool.{eqb-true}
use Rattle.std.proofs.lemmas.List.FromFn.{length-range_with_len, map-range_with_len_more}
use Rattle.std.proofs.lemmas.List.Folds.{list_any-append}
use Rattle.std.proofs.lemmas.List.Sums.{count_by-le-length, sum_by-cons}
use Rattle.btree_model.proofs.LeafLemmas.{is_in}
use Rattle.db_format.specs.Pages.{Pages, Test}
use Rattle.map_pages.specs.Maps.{map_number, maps_of}
use Rattle.map_pages.specs.Trunks.{numbers_from}
use Rattle.map_pages.proofs.Freed.{unlisted}
use Rattle.map_pages.proofs.MapLaws.{number_within}
use Rattle.map_pages.proofs.TrunkPages.{maps_some}

-- how many of the pages from a on the test does not hold for
abbrev pub left : Test → ℕ → ℕ → ℕ
left test a n = count_by (λ k. not (test k)) (range_with_len a n)

pub left_cons : (test : Test) (a n : ℕ) → left test a (suc n) ≡ cond (not (test a)) 1 0 + left test (a + 1) n
left_cons test a n = sum_by-cons (λ k. cond (not (test k)) 1 0) a (range_with_len (a + 1) n)

-- it is the same where the tests are
pub left_same : (test other : Test) (a n : ℕ) → ((k : ℕ) → a ≤ k → k < a + n → other k ≡ test k) → left other a n ≡ left test a n
left_same test other a zero same = refl
left_same test other a (suc n) same =
    left_cons other a n
    ∙ ap (λ (b : Bool). cond (not b) 1 0 + left other (a + 1) n) (same a (omega arith) (omega arith))
    ∙ ap (λ (k : ℕ). cond (not (test a)) 1 0 + k) (left_same test other (a + 1) n (λ k low high. same k (omega (arith, low)) (omega (arith, high))))
    ∙ sym (left_cons test a n)

-- and one less where one page was added
pub left_less : (test other : Test) (m a n : ℕ) → a ≤ m → m < a + n → test m ≡ false → ((k : ℕ) → other k ≡ (m == k || test k)) → 1 + left other a n ≡ left test a n
left_less test other m a zero low high fresh adds = absurd (omega (arith, low, high))
left_less test other m a (suc n) low high fresh adds =
    by (m == a) refl (λ more. left_less test other m (a + 1) n more (omega (arith, high)) fresh adds)
  where
    apart : (k : ℕ) → m < k → (m == k) ≡ false
    apart k less = grind (arith, nat_tests)

    other_one : (m == a) ≡ false → a + 1 ≤ m
    other_one is = grind (arith, nat_tests, low)

    by : (b : Bool) → (m == a) ≡ b → (a + 1 ≤ m → 1 + left other (a + 1) n ≡ left test (a + 1) n) → 1 + left other a (suc n) ≡ left test a (suc n)
    by true is later =
        let same : m ≡ a = eqb-true m a is in
        let now : other a ≡ true = adds a ∙ ap (λ (b : Bool). b || test a) is in
        let was : test a ≡ false = ap test (sym same) ∙ fresh in
        let rest : left other (a + 1) n ≡ left test (a + 1) n =
        left_same test other (a + 1) n (λ k more less. adds k ∙ ap (λ (b : Bool). b || test k) (apart k (omega (arith, same, more)))) in
        let one : left other a (suc n) ≡ 0 + left other (a + 1) n = left_cons other a n ∙ ap (λ (b : Bool). cond (not b) 1 0 + left other (a + 1) n) now in
        let two : left test a (suc n) ≡ 1 + left test (a + 1) n = left_cons test a n ∙ ap (λ (b : Bool). cond (not b) 1 0 + left test (a + 1) n) was in
        omega (arith, rest, one, two)
    by false is later =
        let now : other a ≡ test a = adds a ∙ ap (λ (b : Bool). b || test a) is in
        let rest = later (other_one is) in
        let one : left other a (suc n) ≡ cond (not (test a)) 1 0 + left other (a + 1) n = left_cons other a n ∙ ap (λ (b : Bool). cond (not b) 1 0 + left other (a + 1) n) now in
        omega (arith, rest, one, left_cons test a n)

pub left_most : (test : Test) (a n : ℕ) → left test a n ≤ n
left_most test a n = omega (arith, count_by-le-length (λ k. not (test k)) (range_with_len a n), length-range_with_len a n)

-- ---- the map pages, added one by one

or_swap : (a b c : Bool) → ((a || (b || false)) || c) ≡ (b || (a || c))
or_swap true true c = refl
or_swap true false c = refl
or_swap false true c = refl
or_swap false false c = refl

module _ (pages : Pages) (small : pages.count < 2 ^ 32) (taken : Test) (free : (k : ℕ) → k < maps_of pages → taken (map_number pages.usable k) ≡ false) where
  -- the first j of them, or another one
  abbrev pub with_maps : ℕ → Test
  with_maps j n = is_in (numbers_from pages.usable 0 j) n || taken n

  fresh : (j : ℕ) → j < maps_of pages → with_maps j (map_number pages.usable j) ≡ false
  fresh j less =
      ap (λ (b : Bool). b || taken (map_number pages.usable j)) (unlisted pages.usable 0 j j (omega arith)) ∙ free j less

  adds : (j n : ℕ) → with_maps (j + 1) n ≡ (map_number pages.usable j == n || with_maps j n)
  adds j n =
      ap (λ (l : List ℕ). is_in l n || taken n) (map-range_with_len_more (map_number pages.usable) 0 j j (omega arith))
      ∙ ap (λ (b : Bool). b || taken n) (list_any-append (λ m. m == n) (numbers_from pages.usable 0 j) (map_number pages.usable j ∷ []))
      ∙ or_swap (is_in (numbers_from pages.usable 0 j) n) (map_number pages.usable j == n) (taken n)

  pub maps_counted : (j : ℕ) → j ≤ maps_of pages → j + left (with_maps j) 1 pages.count ≡ left taken 1 pages.count
  maps_counted zero few = omega arith
  maps_counted (suc j) few =
      let less : j < maps_of pages = omega (arith, few) in
      let within = number_within pages.usable pages.count j (maps_some pages small j less) less in
      let step = left_less (with_maps j) (with_maps (j + 1)) (map_number pages.usable j) 1 pages.count (omega arith) (omega (arith, within)) (fresh j less) (adds j) in
      let e : suc j ≡ j + 1 = omega arith in
      let before = maps_counted j (omega (arith, few)) in
      let now : left (with_maps (suc j)) 1 pages.count ≡ left (with_maps (j + 1)) 1 pages.count = ap (λ (k : ℕ). left (with_maps k) 1 pages.count) e in
      omega (arith, step, before, now)
