-- The freelist of a database whose parts meet no map page: it and the map pages are no more than all pages.
use Rattle.std.proofs.Common.{◌≡◌, ℕ, ◌+◌, ◌≤◌, Bool, true, false, ◌||◌, List, [], length, refl, sym, ◌∙◌, ap, subst, arith}
use Rattle.std.proofs.lemmas.List.Folds.{list_any-append}
use Rattle.db_format.specs.Pages.{Pages, nothing}
use Rattle.btree_model.specs.Finding.{Finding, is_sound, places}
use Rattle.btree_model.specs.Freelist.{first_trunk, free_field, freelist_walk, trunks}
use Rattle.btree_model.specs.Rest.{AreUnmarked}
use Rattle.btree_model.proofs.UnmarkedLemmas.{and_left, or_left}
use Rattle.map_pages.specs.Maps.{is_map, maps_of}
use Rattle.map_pages.specs.Settled.{CanBeSettled}
use Rattle.map_pages.proofs.Counted.{left, left_most, left_same, maps_counted, with_maps}
use Rattle.map_pages.proofs.Freed.{maps_are}
use Rattle.map_pages.proofs.OldFree.{few_trunks, first_well, lists_are, lists_counted, lists_sound, seen, walk_is}

module _ (pages : Pages) (can : CanBeSettled pages) where
  pub free_sound : is_sound (freelist_walk pages nothing) ≡ true
  free_sound = and_left (is_sound (freelist_walk pages nothing)) _ can.sound

  pub free_unmet : AreUnmarked (is_map pages) (places (freelist_walk pages nothing))
  free_unmet = or_left _ _ (sym (list_any-append (is_map pages) (places (freelist_walk pages nothing)) _) ∙ can.unmet)

  abbrev trunks_all : List Finding
  trunks_all = trunks pages nothing pages.count (first_trunk pages) []

  pub few_places : length (places trunks_all) + maps_of pages ≤ pages.count
  few_places =
      let sound : is_sound trunks_all ≡ true = ap is_sound (sym (lists_are pages free_sound)) ∙ lists_sound pages free_sound in
      let unmet : AreUnmarked (is_map pages) (places trunks_all) =
      subst (λ (l : List Finding). AreUnmarked (is_map pages) (places l)) (walk_is pages free_sound ∙ lists_are pages free_sound) free_unmet in
      let few = few_trunks pages (is_map pages) pages.count (first_trunk pages) [] (first_well pages free_sound) sound unmet in
      let counted = maps_counted pages can.few nothing (λ k less. refl) (maps_of pages) (omega arith) in
      let same : left (seen pages (is_map pages) []) 1 pages.count ≡ left (with_maps pages can.few nothing (λ k less. refl) (maps_of pages)) 1 pages.count =
      left_same _ _ 1 pages.count (λ k low high. ap (λ (b : Bool). b || false) (sym (maps_are pages k))) in
      omega (arith, few, counted, same, left_most nothing 1 pages.count)

  -- so the field that counts the freelist has room for the map pages
  pub free_few : free_field pages + maps_of pages ≤ pages.count
  free_few =
      let same : length (places trunks_all) ≡ free_field pages = ap (λ (l : List Finding). length (places l)) (sym (lists_are pages free_sound)) ∙ lists_counted pages free_sound in
      omega (arith, same, few_places)
