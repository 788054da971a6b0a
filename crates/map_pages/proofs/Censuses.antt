-- What the two ends of a census beside the map pages say.
use Rattle.std.proofs.Common.{◌≡◌, ℕ, ◌<◌, ◌≤◌, ◌^◌, Bool, true, false, ◌||◌, refl, sym, ◌∙◌, ap, subst, arith}
use Rattle.db_format.specs.Pages.{Pages, Test}
use Rattle.db_format.specs.Seen.{marked}
use Rattle.schema_map.specs.Census.{IsWhole}
use Rattle.schema_map.specs.declared.counts.Census.{Census}
use Rattle.map_pages.specs.Beside.{IsMapLeaf, without_maps}
use Rattle.map_pages.specs.Maps.{is_map_page, map_count, map_number}
use Rattle.map_pages.specs.Settled.{CanBeSettled}
use Rattle.map_pages.proofs.KeptBack.{census_is}
use Rattle.map_pages.proofs.MapLaws.{both, le_makes}

or_true : (b : Bool) → (b || false) ≡ true → b ≡ true
or_true true is = refl
or_true false is = is

module _ (pages : Pages) (usable count : ℕ) where
  pub some_leaf : (n : ℕ) (census : Census) → IsWhole (without_maps pages) census → usable ≡ pages.usable → count ≡ pages.count → is_map_page usable n ≡ true → n ≤ count
      → marked census.leaves.leaves n ≡ true → IsMapLeaf (without_maps pages) n
  some_leaf n census whole size many map there leaf = record {
    sound = whole.sound;
    map = both _ _ (subst (λ (u : ℕ). is_map_page u n ≡ true) size map) (le_makes n pages.count (omega (arith, there, many)));
    leaf = or_true _ (sym (ap (λ (t : Test). t n) whole.leafs) ∙ leaf);
  }

  pub no_leaves : (census : Census) → IsWhole (without_maps pages) census → usable ≡ pages.usable → count ≡ pages.count → count < 2 ^ 32
      → ((k : ℕ) → k < map_count usable count → marked census.leaves.leaves (map_number usable k) ≡ false) → IsWhole pages census × CanBeSettled pages
  no_leaves census whole size many few none =
      census_is pages whole.sound census (omega (arith, few, many)) whole
      (subst (λ (u : ℕ). (k : ℕ) → k < map_count u pages.count → marked census.leaves.leaves (map_number u k) ≡ false) size
      (subst (λ (c : ℕ). (k : ℕ) → k < map_count usable c → marked census.leaves.leaves (map_number usable k) ≡ false) many none))
