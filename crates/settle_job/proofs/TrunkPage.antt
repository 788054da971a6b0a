-- The page of a new trunk as it is filled.
use Rattle.std.proofs.Common.{◌≡◌, ◌⊎◌, inl, inr, ℕ, ◌+◌, ◌-◌, ◌/◌, ◌≤◌, ◌<◌, Bool, true, false, nat_le, if◌then◌else◌, List, ◌++◌, replicate, ap, ◌∙◌, subst, sym, arith}
use Rattle.map_pages.specs.Maps.{map_count, map_number, span}
use Rattle.map_pages.specs.Trunks.{map_trunk, trunk_head}
use Rattle.map_pages.proofs.Heads.{head_long}
use Rattle.map_pages.proofs.MapLaws.{either, le_is, number_within}
use Rattle.settle_job.specs.Put.{filled}

-- a map page is a page of the database
pub number_there : (usable count k : ℕ) → k < map_count usable count → map_number usable k ≤ count
number_there usable count k less = by (either (nat_le 2 count))
  where
    by : (nat_le 2 count ≡ true) ⊎ (nat_le 2 count ≡ false) → map_number usable k ≤ count
    by (inl some) = number_within usable count k (le_is 2 count some) less
    by (inr none) =
        let nil : map_count usable count ≡ 0 = ap (λ (b : Bool). if b then (count - 2) / span usable + 1 else 0) none in
        absurd (omega (arith, nil, less))

trunk_filled : (usable maps old_first k : ℕ) → filled usable (trunk_head usable maps old_first k) ≡ map_trunk usable maps old_first k
trunk_filled usable maps old_first k = ap (λ (n : ℕ). trunk_head usable maps old_first k ++ replicate (usable - n) 0) (head_long usable maps old_first k)

-- by the words of the code for the sizes
pub page_filled : (usable count u c old_first k : ℕ) (bytes head : List ℕ) → bytes ≡ head → head ≡ trunk_head u (map_count u c) old_first k → u ≡ usable → c ≡ count
    → filled usable bytes ≡ map_trunk usable (map_count usable count) old_first k
page_filled usable count u c old_first k bytes head are is size many =
    ap (filled usable) (are ∙ is ∙ ap (λ (n : ℕ). trunk_head n (map_count n c) old_first k) size ∙ ap (λ (n : ℕ). trunk_head usable (map_count usable n) old_first k) many)
    ∙ trunk_filled usable (map_count usable count) old_first k

pub less_by : (usable count u c k : ℕ) → u ≡ usable → c ≡ count → k < map_count usable count → k < map_count u c
less_by usable count u c k size many less = subst (λ (n : ℕ). k < map_count n c) (sym size) (subst (λ (n : ℕ). k < map_count usable n) (sym many) less)
