-- A loop that writes the new trunks: one page more.
use Rattle.std.proofs.Common.{◌≡◌, ℕ, ◌+◌, ◌<◌, ◌==◌, Bool, true, false, if◌then◌else◌, List, refl, ap, ◌∙◌, subst, sym, arith}
use Rattle.std.proofs.lemmas.Bool.Decides.{nat_tests}
use Rattle.std.proofs.lemmas.Bool.{eqb-true, eq-eqb}
use Rattle.map_pages.specs.Maps.{map_count, map_number}
use Rattle.map_pages.specs.Trunks.{is_new_trunk, map_trunk}
use Rattle.map_pages.proofs.MapLaws.{numbers_rise}
use Rattle.settle_job.specs.Put.{IsNoTrunk}

-- what holds below k and of k holds below k + 1
pub extended : (P : ℕ → Type 0) (k : ℕ) → ((j : ℕ) → j < k → P j) → P k → (j : ℕ) → j < k + 1 → P j
extended P k below here j less = by (j == k) refl
  where
    lower : (j == k) ≡ false → j < k
    lower other = grind (arith, nat_tests, less)

    by : (b : Bool) → (j == k) ≡ b → P j
    by true is = subst P (sym (eqb-true j k is)) here
    by false other = below j (lower other)

pub no_trunk_before : (usable k m : ℕ) → IsNoTrunk usable (k + 1) m → IsNoTrunk usable k m
no_trunk_before usable k m none j less is = none j (omega (arith, less)) is

-- the number of an earlier map page is another one
pub other_number : (usable j k : ℕ) → j < k → (map_number usable j == map_number usable k) ≡ false
other_number usable j k less = let lower : map_number usable j < map_number usable k = omega (arith, numbers_rise usable j k less) in grind (arith, nat_tests, lower)

pub if_not : {A : Type 0} (b : Bool) (x y : A) → b ≡ false → (if b then x else y) ≡ y
if_not b x y is = ap (λ (c : Bool). if c then x else y) is

pub if_so : {A : Type 0} (b : Bool) (x y : A) → b ≡ true → (if b then x else y) ≡ x
if_so b x y is = ap (λ (c : Bool). if c then x else y) is

-- one trunk more, by the sizes of the start
module _ (size size' count count' first k : ℕ) (sized : size' ≡ size) (counted : count' ≡ count) (new mid : ℕ → List ℕ)
    (step : (m : ℕ) → new m ≡ (if m == map_number size' k then map_trunk size' (map_count size' count') first k else mid m)) where
  by_start : (m : ℕ) → new m ≡ (if m == map_number size k then map_trunk size (map_count size count) first k else mid m)
  by_start m =
      step m
      ∙ ap (λ (u : ℕ). if m == map_number u k then map_trunk u (map_count u count') first k else mid m) sized
      ∙ ap (λ (c : ℕ). if m == map_number size k then map_trunk size (map_count size c) first k else mid m) counted

  pub more_trunks : ((j : ℕ) → j < k → is_new_trunk size j ≡ true → mid (map_number size j) ≡ map_trunk size (map_count size count) first j)
      → (j : ℕ) → j < k + 1 → is_new_trunk size j ≡ true → new (map_number size j) ≡ map_trunk size (map_count size count) first j
  more_trunks so_far =
      extended (λ j. is_new_trunk size j ≡ true → new (map_number size j) ≡ map_trunk size (map_count size count) first j) k
      (λ j less is. by_start (map_number size j) ∙ if_not (map_number size j == map_number size k) _ _ (other_number size j k less) ∙ so_far j less is)
      (λ is. by_start (map_number size k) ∙ if_so (map_number size k == map_number size k) _ _ (eq-eqb (map_number size k) (map_number size k) refl))

  pub more_others : (old : ℕ → List ℕ) → is_new_trunk size k ≡ true → ((m : ℕ) → IsNoTrunk size k m → mid m ≡ old m) → (m : ℕ) → IsNoTrunk size (k + 1) m → new m ≡ old m
  more_others old is so_far m none =
      by_start m ∙ if_not (m == map_number size k) _ _ (none k (omega arith) is) ∙ so_far m (no_trunk_before size k m none)

-- no trunk more
pub same_trunks : (size k : ℕ) (P : ℕ → Type 0) → is_new_trunk size k ≡ false → ((j : ℕ) → j < k → is_new_trunk size j ≡ true → P j)
    → (j : ℕ) → j < k + 1 → is_new_trunk size j ≡ true → P j
same_trunks size k P none so_far = extended (λ j. is_new_trunk size j ≡ true → P j) k so_far (λ is. let one : true ≡ false = sym is ∙ none in cc)

module _ (size size' k : ℕ) (sized : size' ≡ size) (new mid : ℕ → Bool) where
  touch_by : (m : ℕ) → new m ≡ (if m == map_number size' k then true else mid m) → new m ≡ (if m == map_number size k then true else mid m)
  touch_by m is = is ∙ ap (λ (u : ℕ). if m == map_number u k then true else mid m) sized

  pub touched_at : (m : ℕ) → (m == map_number size k) ≡ true → new m ≡ (if m == map_number size' k then true else mid m) → new m ≡ true
  touched_at m same is = touch_by m is ∙ if_so (m == map_number size k) true (mid m) same

  pub touched_by : (m : ℕ) → (m == map_number size k) ≡ false → new m ≡ (if m == map_number size' k then true else mid m) → new m ≡ mid m
  touched_by m other is = touch_by m is ∙ if_not (m == map_number size k) true (mid m) other
