-- A database whose walk needs no map page has none among the places of its parts, and is the same with all its pages.
use Rattle.std.proofs.Common.{◌≡◌, ℕ, zero, suc, ◌<◌, ◌^◌, Bool, true, false, not, ◌&&◌, ◌||◌, ◌==◌, if◌then◌else◌, List, [], ◌∷◌, ◌++◌, length, map, ◌-◌, ◌/◌, refl, sym, ◌∙◌, ap, subst}
use Rattle.std.specs.Prelude.{count_by, sum}
use Rattle.std.specs.List.{list_all, list_any, range_with_len}
use Rattle.std.proofs.lemmas.Bool.{eq-eqb}
use Rattle.btree_page.specs.declared.kind.Family.{Family}
use Rattle.btree_page.specs.declared.kind.Family.TheVariants.{Table}
use Rattle.db_format.specs.Pages.{Pages, Test, also, nothing}
use Rattle.db_format.specs.declared.defect.Defect.TheVariants.{FreeCount, TrunkFault}
use Rattle.btree_model.specs.Finding.{Finding, entries, entry, fault, is_sound, key, leaf, leaves, place, places, refused}
use Rattle.btree_model.specs.Freelist.{first_trunk, free_field, freelist_walk, is_trunk, leaf_numbers, leaves_of, lists_of, next_trunk, trunk_found, trunks, visit_trunk}
use Rattle.btree_model.specs.Parts.{all_places, free_places, is_database, parts, trees_from, trees_of}
use Rattle.btree_model.specs.Range.{is_in_range}
use Rattle.btree_model.specs.Records.{record_faults, tree_part}
use Rattle.btree_model.specs.Rest.{AreUnmarked}
use Rattle.btree_model.specs.Schema.{roots, schema_faults, schema_part}
use Rattle.btree_model.specs.Tree.{max_path, root_family, tree_walk}
use Rattle.btree_model.specs.Walk.{is_met}
use Rattle.btree_model.proofs.AcceptedLemmas.{are_accepted, used_accepted, walk_accepted}
use Rattle.btree_model.proofs.KeptLemmas.{AreSame, walk_kept}
use Rattle.btree_model.proofs.LeafLemmas.{is_in}
use Rattle.btree_model.proofs.UnmarkedLemmas.{and_left, and_right, or_left, sound_left, sound_right}
use Rattle.schema_map.proofs.SoundParts.{all_sound, schema_sound}
use Rattle.schema_map.specs.Census.{IsWhole, free_part, schema_after}
use Rattle.schema_map.specs.Schema.{schema_row}
use Rattle.schema_map.specs.declared.counts.Census.{Census}
use Rattle.db_format.specs.Seen.{marked}
use Rattle.map_pages.specs.Beside.{without_maps}
use Rattle.map_pages.specs.Maps.{is_map, is_map_page, map_number, maps_of, span}
use Rattle.map_pages.specs.Settled.{CanBeSettled}
use Rattle.map_pages.proofs.MapLaws.{and_first, and_second, le_is, numbers_all}

not_false : (b : Bool) → not b ≡ true → b ≡ false
not_false true is = cc
not_false false is = refl

module _ (pages : Pages) where
  abbrev kept : Pages
  kept = without_maps pages

  -- ---- trees

  same_at : (found : List Finding) → are_accepted false kept.accepts found ≡ true → AreSame kept pages (places found)
  same_at [] accepted = tt
  same_at (place n ∷ xs) accepted =
      (record { bytes = refl; accepted = and_left (pages.accepts n) (not (is_map pages n)) (and_left (kept.accepts n) _ accepted) }, same_at xs (and_right (kept.accepts n) _ accepted))
  same_at (leaf n ∷ xs) accepted = cc
  same_at (entry row ∷ xs) accepted = same_at xs accepted
  same_at (key k ∷ xs) accepted = same_at xs accepted
  same_at (fault d ∷ xs) accepted = same_at xs accepted
  same_at (refused n ∷ xs) accepted = same_at xs accepted

  tree_same : (taken : Test) (family : Family) (root : ℕ) → is_sound (tree_walk kept family taken root) ≡ true
      → tree_walk pages family taken root ≡ tree_walk kept family taken root
  tree_same taken family root sound =
      walk_kept kept pages refl (λ n is. is) family taken max_path [] root sound
      (same_at (tree_walk kept family taken root) (walk_accepted false kept taken family max_path [] root sound))

  part_same : (taken : Test) (family : Family) (root : ℕ) → is_sound (tree_part kept family taken root) ≡ true → tree_part pages family taken root ≡ tree_part kept family taken root
  part_same taken family root sound =
      ap (λ (found : List Finding). found ++ record_faults (entries found))
      (tree_same taken family root (sound_left (tree_walk kept family taken root) (record_faults (entries (tree_walk kept family taken root))) sound))

  schema_same : (taken : Test) → is_sound (schema_part kept taken) ≡ true → schema_part pages taken ≡ schema_part kept taken
  schema_same taken sound =
      let part : List Finding = tree_part kept Table taken 1 in
      ap (λ (found : List Finding). found ++ schema_faults pages (entries found)) (part_same taken Table 1 (sound_left part (schema_faults kept (entries part)) sound))

  trees_same : (taken : Test) (numbers : List ℕ) → list_all is_sound (trees_from kept taken numbers) ≡ true → trees_from pages taken numbers ≡ trees_from kept taken numbers
  trees_same taken [] sound = refl
  trees_same taken (root ∷ rest) sound =
      let part : List Finding = tree_part kept (root_family root (pages.page root)) taken root in
      let later : List (List Finding) = trees_from kept (also (places part) taken) rest in
      ap (λ (found : List Finding). found ∷ trees_from pages (also (places found) taken) rest)
      (part_same taken (root_family root (pages.page root)) root (and_left (is_sound part) (list_all is_sound later) sound))
      ∙ ap (λ (l : List (List Finding)). part ∷ l) (trees_same (also (places part) taken) rest (and_right (is_sound part) (list_all is_sound later) sound))

  -- ---- the freelist

  abbrev Same : List Finding → List Finding → Type 0
  Same found again = is_sound found ≡ true → again ≡ found

  if_same : (b : Bool) (one one' other : List Finding) → Same one one' → Same (if b then other else one) (if b then other else one')
  if_same true one one' other p sound = refl
  if_same false one one' other p sound = p sound

  found_same : (met : List Finding) (n : ℕ) (bytes : List ℕ) (t : Bool) (after again : List Finding → List Finding) → ((now : List Finding) → Same (after now) (again now))
      → Same (trunk_found nothing met n bytes t after) (trunk_found nothing met n bytes t again)
  found_same met n bytes false after again p sound = refl
  found_same met n bytes true after again p sound =
      let found = leaves_of nothing (met ++ place n ∷ []) (leaf_numbers bytes) in
      ap (λ (l : List Finding). found ++ l) (p (met ++ place n ∷ found) (sound_right found (after (met ++ place n ∷ found)) sound))

  visit_same : (met : List Finding) (n : ℕ) (m a other : Bool) (after again : List Finding → List Finding) → (a ≡ true → other ≡ true) → ((now : List Finding) → Same (after now) (again now))
      → Same (visit_trunk kept nothing met n m a after) (visit_trunk pages nothing met n m other again)
  visit_same met n true a other after again lent p sound = refl
  visit_same met n false false other after again lent p sound = cc
  visit_same met n false true other after again lent p sound =
      ap (λ (b : Bool). visit_trunk pages nothing met n false b again) (lent refl) ∙ found_same met n (pages.page n) (is_trunk pages (pages.page n)) after again p sound

  trunks_same : (fuel n : ℕ) (met : List Finding) → Same (trunks kept nothing fuel n met) (trunks pages nothing fuel n met)
  trunks_same zero n met sound = refl
  trunks_same (suc fuel) n met sound =
      if_same (n == 0) _ _ []
      (λ s. ap (λ (l : List Finding). place n ∷ l)
      (visit_same met n (is_met nothing met n) (kept.accepts n) (pages.accepts n) (trunks kept nothing fuel (next_trunk (pages.page n))) (trunks pages nothing fuel (next_trunk (pages.page n)))
      (λ a. and_left (pages.accepts n) (not (is_map pages n)) a) (λ now. trunks_same fuel (next_trunk (pages.page n)) now) s)) sound

  lists_same : Same (lists_of kept nothing) (lists_of pages nothing)
  lists_same = by (first_trunk pages == 0 || is_in_range pages (first_trunk pages))
    where
      by : (b : Bool) → Same (if b then trunks kept nothing pages.count (first_trunk pages) [] else fault (TrunkFault 1) ∷ [])
          (if b then trunks pages nothing pages.count (first_trunk pages) [] else fault (TrunkFault 1) ∷ [])
      by true sound = trunks_same pages.count (first_trunk pages) [] sound
      by false sound = refl

  free_same : Same (freelist_walk kept nothing) (freelist_walk pages nothing)
  free_same sound =
      ap (λ (l : List Finding). l ++ (if is_sound l && not (length (places l) == free_field pages) then fault (FreeCount (free_field pages) (length (places l))) ∷ [] else []))
      (lists_same (sound_left (lists_of kept nothing) _ sound))

  -- ---- all parts

  module _ (sound : is_database kept ≡ true) where
    abbrev free : List Finding
    free = freelist_walk kept nothing

    abbrev schema : List Finding
    schema = schema_part kept (also (places free) nothing)

    pub parts_same : parts pages ≡ parts kept
    parts_same =
        ap (λ (l : List Finding). l ∷ (schema_part pages (also (places l) nothing) ∷ trees_of pages (also (places l) nothing) (schema_part pages (also (places l) nothing))))
        (free_same (and_left (is_sound free) _ sound))
        ∙ ap (λ (l : List Finding). free ∷ (l ∷ trees_of pages (also (places free) nothing) l)) (schema_same (also (places free) nothing) (schema_sound kept sound))
        ∙ ap (λ (b : Bool). free ∷ (schema ∷ (if b then trees_from pages (also (places schema) (also (places free) nothing)) (roots (entries schema)) else []))) (schema_sound kept sound)
        ∙ ap (λ (l : List (List Finding)). free ∷ (schema ∷ l)) (trees_same (also (places schema) (also (places free) nothing)) (roots (entries schema)) (all_sound kept sound))
        ∙ sym (ap (λ (b : Bool). free ∷ (schema ∷ (if b then trees_from kept (also (places schema) (also (places free) nothing)) (roots (entries schema)) else []))) (schema_sound kept sound))

    -- a page that the walk needs is no map page
    needed : (n : ℕ) → is_in (leaves free) n ≡ false → is_in (all_places (parts kept)) n ≡ true → is_map pages n ≡ false
    needed n no_leaf placed = not_false (is_map pages n) (and_right (pages.accepts n) (not (is_map pages n)) (used_accepted kept n sound placed no_leaf))

    unplaced : (n : ℕ) → is_in (leaves free) n ≡ false → is_map pages n ≡ true → is_in (all_places (parts kept)) n ≡ false
    unplaced n no_leaf map = by (is_in (all_places (parts kept)) n) refl
      where
        by : (b : Bool) → is_in (all_places (parts kept)) n ≡ b → b ≡ false
        by true placed = let none : is_map pages n ≡ false = needed n no_leaf placed in cc
        by false none = refl

    all_unmet : (ns : List ℕ) → ((n : ℕ) → is_map pages n ≡ true → is_in ns n ≡ false) → AreUnmarked (is_map pages) ns
    all_unmet [] none = refl
    all_unmet (m ∷ ms) none = by (is_map pages m) refl (all_unmet ms (λ n map. or_right_of (m == n) (is_in ms n) (none n map)))
      where
        or_right_of : (a b : Bool) → (a || b) ≡ false → b ≡ false
        or_right_of true b is = cc
        or_right_of false b is = is

        by : (b : Bool) → is_map pages m ≡ b → list_any (is_map pages) ms ≡ false → (b || list_any (is_map pages) ms) ≡ false
        by true map later =
            let met : is_in (m ∷ ms) m ≡ true = ap (λ (b : Bool). b || is_in ms m) (eq-eqb m m refl) in
            let other : is_in (m ∷ ms) m ≡ false = none m map in cc
        by false map later = later

    pub can_be_settled : pages.count < 2 ^ 32 → ((n : ℕ) → is_map pages n ≡ true → is_in (leaves free) n ≡ false) → CanBeSettled pages
    can_be_settled few no_leaf = record {
      few = few;
      sound = ap (list_all is_sound) parts_same ∙ sound;
      unmet = subst (λ (l : List (List Finding)). AreUnmarked (is_map pages) (all_places l)) (sym parts_same)
          (all_unmet (all_places (parts kept)) (λ n map. unplaced n (no_leaf n map) map));
    }

    -- ---- the census is that of all pages

    abbrev all : Test
    all = also (places free) nothing

    pub whole_is : (census : Census) → IsWhole kept census → CanBeSettled pages → IsWhole pages census
    whole_is census whole can =
        let free_is : free_part pages ≡ free_part kept = free_same (and_left (is_sound free) _ sound) in
        let schema_is : schema_after pages ≡ schema_after kept =
        ap (λ (l : List Finding). schema_part pages (also (places l) nothing)) free_is ∙ schema_same all (schema_sound kept sound) in
        record {
          sound = can.sound;
          trees = whole.trees ∙ sym (ap (λ (l : List (List Finding)). length l - 1) parts_same);
          rows = whole.rows ∙ sym (ap (λ (l : List (List Finding)). sum (map (λ part. length (entries part)) l)) parts_same);
          free = whole.free ∙ sym (ap (λ (l : List (List Finding)). free_places l) parts_same);
          unused = whole.unused ∙ sym (ap (λ (l : List (List Finding)). count_by (λ n. not (list_any (λ m. m == n) (all_places l))) (range_with_len 1 pages.count)) parts_same);
          schema = whole.schema ∙ sym (ap (λ (l : List Finding). map schema_row (entries l)) schema_is);
          leafs = whole.leafs ∙ sym (ap (λ (l : List Finding). also (leaves l) nothing) free_is);
        }

    -- where no map page has a mark as a leaf, none is one
    pub no_map_leaf : (leafs : Test) → leafs ≡ also (leaves free) nothing → ((k : ℕ) → k < maps_of pages → leafs (map_number pages.usable k) ≡ false)
        → (n : ℕ) → is_map pages n ≡ true → is_in (leaves free) n ≡ false
    no_map_leaf leafs are none n map =
        let all_of = numbers_all pages.usable pages.count n (and_first _ _ map) (le_is n pages.count (and_second (is_map_page pages.usable n) _ map)) in
        or_left (is_in (leaves free) n) false (sym (ap (λ (t : Test). t n) are) ∙ ap leafs all_of.0 ∙ none ((n - 2) / span pages.usable) all_of.1)

    pub census_is : (census : Census) → pages.count < 2 ^ 32 → IsWhole kept census
        → ((k : ℕ) → k < maps_of pages → marked census.leaves.leaves (map_number pages.usable k) ≡ false) → IsWhole pages census × CanBeSettled pages
    census_is census few whole none =
        let can : CanBeSettled pages = can_be_settled few (no_map_leaf (marked census.leaves.leaves) whole.leafs none) in
        (whole_is census whole can, can)
