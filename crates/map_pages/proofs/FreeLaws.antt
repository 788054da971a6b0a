-- The freelist of the settled pages: the map pages, and then the old freelist.
use Rattle.std.proofs.Common.{◌≡◌, ◌⊎◌, inl, inr, ℕ, suc, zero, ◌+◌, ◌-◌, ◌≤◌, ◌<◌, Bool, true, false, not, ◌&&◌, ◌||◌, ◌==◌, nat_le, nat_lt, if◌then◌else◌, List, [], ◌∷◌, ◌++◌, length, refl, sym, ◌∙◌, ap, subst, arith, append_assoc, length-append}
use Rattle.std.proofs.Math.Nat.{zero-mod}
use Rattle.std.proofs.lemmas.Bool.Decides.{nat_tests}
use Rattle.std.proofs.lemmas.List.{append-nil}
use Rattle.std.proofs.lemmas.List.Folds.{list_any-append}
use Rattle.db_format.specs.Pages.{Pages, nothing}
use Rattle.db_format.specs.declared.defect.Defect.TheVariants.{FreeCount, TrunkFault}
use Rattle.btree_model.specs.Finding.{Finding, fault, is_sound, place, places}
use Rattle.btree_model.specs.Freelist.{first_trunk, free_field, freelist_walk, is_trunk, leaves_of, lists_of, next_trunk, trunk_found, trunks, visit_trunk}
use Rattle.btree_model.specs.Range.{is_in_range}
use Rattle.btree_model.specs.Rest.{AreUnmarked}
use Rattle.btree_model.specs.Walk.{is_met}
use Rattle.btree_model.proofs.FindingLemmas.{places-append, sound_both}
use Rattle.btree_model.proofs.LeafLemmas.{is_in}
use Rattle.btree_model.proofs.UnmarkedLemmas.{and_left, or_left}
use Rattle.map_pages.specs.Maps.{is_map, map_number, maps_of}
use Rattle.map_pages.specs.Settled.{AreSettled, CanBeSettled}
use Rattle.map_pages.specs.Trunks.{findings_from, is_new_trunk, leaves_behind, map_finding, map_trunk, numbers_from, room, trunk_from}
use Rattle.map_pages.proofs.Counted.{left, left_most, left_same, maps_counted, with_maps}
use Rattle.map_pages.proofs.FreeCount.{few_places, free_sound, free_unmet}
use Rattle.map_pages.proofs.Freed.{leaf_between, leaves_listed, length_from, map_join, maps_are, met_from, one_more, places_from, sound_from, trunk_again, trunk_finding}
use Rattle.map_pages.proofs.MapLaws.{maps_few, le_is}
use Rattle.map_pages.proofs.OldFree.{few_trunks, first_well, lists_are, lists_counted, lists_sound, seen, trunk_same, trunks_stay, walk_is}
use Rattle.map_pages.proofs.TrunkPages.{from_well, names_well, new_leaves, new_next, new_trunk_is}

no_zero : (n : ℕ) → 2 ≤ n → (n == 0) ≡ false
no_zero n low = grind (arith, nat_tests)

no_first : (n : ℕ) → 2 ≤ n → (n == 1) ≡ false
no_first n low = grind (arith, nat_tests)

lt_makes : (a b : ℕ) → a < b → nat_lt a b ≡ true
lt_makes a b less = grind (arith, nat_tests)

lt_is : (a b : ℕ) → nat_lt a b ≡ true → a < b
lt_is a b is = grind (arith, nat_tests)

lt_not : (a b : ℕ) → nat_lt a b ≡ false → b ≤ a
lt_not a b is = grind (arith, nat_tests)

eq_true : (a b : ℕ) → a ≡ b → (a == b) ≡ true
eq_true a b is = grind (arith, nat_tests)

either : (b : Bool) → (b ≡ true) ⊎ (b ≡ false)
either true = inl refl
either false = inr refl

and_false : (a : Bool) → (a && false) ≡ false
and_false true = refl
and_false false = refl

-- map page k, `many` behind it, and the others up to the end
findings_split : (usable maps k many : ℕ) → k + 1 + many ≤ maps
    → findings_from usable k (maps - k) ≡ map_finding usable k ∷ (findings_from usable (k + 1) many ++ findings_from usable (k + 1 + many) (maps - (k + 1 + many)))
findings_split usable maps k many within =
    let e : maps - k ≡ suc (many + (maps - (k + 1 + many))) = omega (arith, within) in
    ap (λ (n : ℕ). findings_from usable k n) e
    ∙ ap (λ (l : List Finding). map_finding usable k ∷ l) (map_join (map_finding usable) (k + 1) many (maps - (k + 1 + many)))

-- what was met up to map page k, it, and `many` behind it
met_with : (usable k many : ℕ) → findings_from usable 0 k ++ map_finding usable k ∷ findings_from usable (k + 1) many ≡ findings_from usable 0 (k + 1 + many)
met_with usable k many =
    let e : 0 + (k + 1) ≡ k + 1 = omega arith in
    sym (append_assoc (findings_from usable 0 k) (map_finding usable k ∷ []) (findings_from usable (k + 1) many))
    ∙ ap (λ (l : List Finding). l ++ findings_from usable (k + 1) many) (one_more usable k)
    ∙ ap (λ (n : ℕ). findings_from usable 0 (k + 1) ++ findings_from usable n many) (sym e)
    ∙ sym (map_join (map_finding usable) 0 (k + 1) many)

module _ (old new : Pages) (can : CanBeSettled old) (all : AreSettled old new) where
  abbrev maps : ℕ
  maps = maps_of old

  abbrev first : ℕ
  first = first_trunk old

  abbrev before : List Finding
  before = findings_from old.usable 0 maps

  well : names_well old first ≡ true
  well = first_well old (free_sound old can)

  pub range_same : (n : ℕ) → is_in_range new n ≡ is_in_range old n
  range_same n = ap (λ (c : ℕ). nat_le 2 n && nat_le n c) all.count

  -- a page that another one names, and that is no map page, is the same
  pub named_same : (n : ℕ) → is_in_range old n ≡ true → is_map old n ≡ false → (new.page n ≡ old.page n) × (new.accepts n ≡ old.accepts n)
  named_same n within none =
      (all.page n (no_first n (le_is 2 n (and_left (nat_le 2 n) (nat_le n old.count) within))) none, all.accepted n none)

  numbers_are : (n : ℕ) → is_in (places before) n ≡ is_map old n
  numbers_are n = ap (λ (l : List ℕ). is_in l n) (places_from old.usable 0 maps) ∙ maps_are old n

  -- ---- one new trunk

  module _ (k fuel : ℕ) (less : k < maps) (is : is_new_trunk old.usable k ≡ true) where
    abbrev n : ℕ
    n = map_number old.usable k

    abbrev many : ℕ
    many = leaves_behind old.usable maps k

    abbrev bytes : List ℕ
    bytes = map_trunk old.usable maps first k

    abbrev next : ℕ
    next = trunk_from old.usable maps first (k + room old.usable + 1)

    abbrev met : List Finding
    met = findings_from old.usable 0 k

    abbrev leafs : List ℕ
    leafs = numbers_from old.usable (k + 1) many

    trunk : is_trunk new bytes ≡ true
    trunk = trunk_same old new before (is_map old) all.count all.usable numbers_are named_same bytes ∙ new_trunk_is old can.few first k well less

    with_it : met ++ place n ∷ [] ≡ findings_from old.usable 0 (k + 1)
    with_it = ap (λ (x : Finding). met ++ x ∷ []) (sym (trunk_finding old.usable k is)) ∙ one_more old.usable k

    are_leaves : (i : ℕ) → k + 1 ≤ i → i < k + 1 + many → is_new_trunk old.usable i ≡ false
    are_leaves i low high =
        let e : k + (i - k) ≡ i = omega (arith, low) in
        ap (λ (j : ℕ). is_new_trunk old.usable j) (sym e) ∙ leaf_between old.usable k (i - k) is (omega (arith, low)) (omega (arith, low, high))

    listed : leaves_of nothing (met ++ place n ∷ []) leafs ≡ findings_from old.usable (k + 1) many
    listed = ap (λ (l : List Finding). leaves_of nothing l leafs) with_it ∙ leaves_listed old.usable many (k + 1) are_leaves

    after : List Finding → List Finding
    after now = trunks new nothing fuel next now

    one_trunk : trunks new nothing (suc fuel) n met
        ≡ place n ∷ (findings_from old.usable (k + 1) many ++ trunks new nothing fuel next (findings_from old.usable 0 (k + 1 + many)))
    one_trunk =
        ap (λ (b : Bool). if b then [] else place n ∷ visit_trunk new nothing met n (is_met nothing met n) (new.accepts n) (trunks new nothing fuel (next_trunk (new.page n)))) (no_zero n (omega arith))
        ∙ ap (λ (b : Bool). place n ∷ visit_trunk new nothing met n b (new.accepts n) (trunks new nothing fuel (next_trunk (new.page n)))) (met_from old.usable k k (omega arith))
        ∙ ap (λ (b : Bool). place n ∷ visit_trunk new nothing met n false b (trunks new nothing fuel (next_trunk (new.page n)))) (all.lent k less is)
        ∙ ap (λ (l : List ℕ). place n ∷ trunk_found nothing met n l (is_trunk new l) (trunks new nothing fuel (next_trunk l))) (all.trunk k less is)
        ∙ ap (λ (b : Bool). place n ∷ trunk_found nothing met n bytes b (trunks new nothing fuel (next_trunk bytes))) trunk
        ∙ ap (λ (l : List ℕ). place n ∷ (leaves_of nothing (met ++ place n ∷ []) l ++ trunks new nothing fuel (next_trunk bytes) (met ++ place n ∷ leaves_of nothing (met ++ place n ∷ []) l)))
        (new_leaves old can.few first k well less)
        ∙ ap (λ (l : List Finding). place n ∷ (l ++ trunks new nothing fuel (next_trunk bytes) (met ++ place n ∷ l))) listed
        ∙ ap (λ (m : ℕ). place n ∷ (findings_from old.usable (k + 1) many ++ trunks new nothing fuel m (met ++ place n ∷ findings_from old.usable (k + 1) many)))
        (new_next old can.few first k well less)
        ∙ ap (λ (l : List Finding). place n ∷ (findings_from old.usable (k + 1) many ++ trunks new nothing fuel next l))
        (ap (λ (x : Finding). met ++ x ∷ findings_from old.usable (k + 1) many) (sym (trunk_finding old.usable k is)) ∙ met_with old.usable k many)

  -- ---- all of them

  -- from map page k on, with so many walked already: the map pages, and then the old freelist, where so many trunks may be walked as are left
  Walks : ℕ → ℕ → ℕ → Type 0
  Walks fuel from k = (rest : ℕ) × (fuel ≤ rest + (maps - k))
      × (trunks new nothing fuel from (findings_from old.usable 0 k) ≡ findings_from old.usable k (maps - k) ++ trunks new nothing rest first before)

  at_end : (fuel from k : ℕ) → from ≡ first → k ≡ maps → Walks fuel from k
  unfolding Walks
  at_end fuel from k is end =
      let none : maps - k ≡ 0 = omega (arith, end) in (
        fuel,
        omega arith,
        ap (λ (m : ℕ). trunks new nothing fuel m (findings_from old.usable 0 k)) is
            ∙ ap (λ (j : ℕ). trunks new nothing fuel first (findings_from old.usable 0 j)) end
            ∙ ap (λ (j : ℕ). findings_from old.usable k j ++ trunks new nothing fuel first before) (sym none),
      )

  behind_trunk : (fuel k : ℕ) → k < maps → is_new_trunk old.usable k ≡ true
      → Walks fuel (trunk_from old.usable maps first (k + room old.usable + 1)) (k + 1 + leaves_behind old.usable maps k)
      → Walks (suc fuel) (map_number old.usable k) k
  unfolding Walks
  behind_trunk fuel k less is (rest, few, walks) =
      let many : ℕ = leaves_behind old.usable maps k in
      let within : k + 1 + leaves_behind old.usable maps k ≤ maps = omega (arith, less) in (
        rest,
        omega (arith, few, within),
        one_trunk k fuel less is
            ∙ ap (λ (l : List Finding). place (map_number old.usable k) ∷ (findings_from old.usable (k + 1) many ++ l)) walks
            ∙ ap (λ (l : List Finding). place (map_number old.usable k) ∷ l)
            (sym (append_assoc (findings_from old.usable (k + 1) many) (findings_from old.usable (k + 1 + many) (maps - (k + 1 + many))) (trunks new nothing rest first before)))
            ∙ ap (λ (x : Finding). x ∷ ((findings_from old.usable (k + 1) many ++ findings_from old.usable (k + 1 + many) (maps - (k + 1 + many))) ++ trunks new nothing rest first before))
            (sym (trunk_finding old.usable k is))
            ∙ ap (λ (l : List Finding). l ++ trunks new nothing rest first before) (sym (findings_split old.usable maps k many within)),
      )

  number_from : (k : ℕ) (b : Bool) → nat_lt k maps ≡ b → trunk_from old.usable maps first k ≡ (if b then map_number old.usable k else first)
  number_from k b is = ap (λ (c : Bool). if c then map_number old.usable k else first) is

  all_trunks : (d fuel k : ℕ) → maps - k ≤ d → k < maps → maps ≤ fuel + k → is_new_trunk old.usable k ≡ true → Walks fuel (map_number old.usable k) k
  unfolding Walks
  all_trunks zero fuel k most less enough is = absurd (omega (arith, most, less))
  all_trunks (suc d) zero k most less enough is = absurd (omega (arith, less, enough))
  all_trunks (suc d) (suc fuel) k most less enough is =
      behind_trunk fuel k less is
      (by (nat_lt (k + room old.usable + 1) maps) refl
      (λ more. all_trunks d fuel (k + room old.usable + 1) (omega (arith, most, less)) more (omega (arith, enough)) (trunk_again old.usable k is)))
    where
      by : (b : Bool) → nat_lt (k + room old.usable + 1) maps ≡ b
          → (k + room old.usable + 1 < maps → Walks fuel (map_number old.usable (k + room old.usable + 1)) (k + room old.usable + 1))
          → Walks fuel (trunk_from old.usable maps first (k + room old.usable + 1)) (k + 1 + leaves_behind old.usable maps k)
      by true more later =
          let behind : k + room old.usable + 1 < maps = lt_is _ _ more in
          let e : k + 1 + leaves_behind old.usable maps k ≡ k + room old.usable + 1 = omega (arith, behind) in
          rw (number_from (k + room old.usable + 1) true more, e) (later behind)
      by false last later =
          let behind : maps ≤ k + room old.usable + 1 = lt_not _ _ last in
          at_end fuel (trunk_from old.usable maps first (k + room old.usable + 1)) (k + 1 + leaves_behind old.usable maps k) (number_from (k + room old.usable + 1) false last) (omega (arith, behind, less))

  first_is_trunk : is_new_trunk old.usable 0 ≡ true
  first_is_trunk = ap (λ (m : ℕ). m == 0) (zero-mod (room old.usable + 1))

  whole_walk : Walks old.count (trunk_from old.usable maps first 0) 0
  unfolding Walks
  whole_walk = by (nat_lt 0 maps) refl
    where
      by : (b : Bool) → nat_lt 0 maps ≡ b → Walks old.count (trunk_from old.usable maps first 0) 0
      by true some =
          let few = maps_few old.usable old.count in
          rw (number_from 0 true some) (all_trunks maps old.count 0 (omega arith) (lt_is 0 maps some) (omega (arith, few)) first_is_trunk)
      by false none =
          let none_left = lt_not 0 maps none in
          at_end old.count (trunk_from old.usable maps first 0) 0 (number_from 0 false none) (omega (arith, none_left))

  -- ---- and then the old ones

  old_behind : (rest : ℕ) → old.count ≤ rest + maps → trunks new nothing rest first before ≡ lists_of old nothing
  old_behind rest few =
      let sound : is_sound (trunks old nothing old.count first []) ≡ true = ap is_sound (sym (lists_are old (free_sound old can))) ∙ lists_sound old (free_sound old can) in
      let unmet : AreUnmarked (is_map old) (places (trunks old nothing old.count first [])) =
      subst (λ (l : List Finding). AreUnmarked (is_map old) (places l)) (walk_is old (free_sound old can) ∙ lists_are old (free_sound old can)) (free_unmet old can) in
      ap (λ (l : List Finding). trunks new nothing rest first l) (sym (append-nil before))
      ∙ trunks_stay old new before (is_map old) all.count all.usable numbers_are named_same old.count rest first [] well sound unmet (omega (arith, few, few_places old can))
      ∙ sym (lists_are old (free_sound old can))

  walked : Walks old.count (trunk_from old.usable maps first 0) 0 → trunks new nothing old.count (trunk_from old.usable maps first 0) [] ≡ before ++ lists_of old nothing
  unfolding Walks
  walked (rest, few, walks) =
      let whole : maps - 0 ≡ maps = omega arith in
      walks ∙ ap (λ (n : ℕ). findings_from old.usable 0 n ++ trunks new nothing rest first before) whole
      ∙ ap (λ (l : List Finding). before ++ l) (old_behind rest (omega (arith, few, whole)))

  lists_new : lists_of new nothing ≡ before ++ lists_of old nothing
  lists_new =
      let stop : List Finding = fault (TrunkFault 1) ∷ [] in
      ap (λ (n : ℕ). if n == 0 || is_in_range new n then trunks new nothing new.count n [] else stop) all.first
      ∙ ap (λ (b : Bool). if trunk_from old.usable maps first 0 == 0 || b then trunks new nothing new.count (trunk_from old.usable maps first 0) [] else stop)
      (range_same (trunk_from old.usable maps first 0))
      ∙ ap (λ (b : Bool). if b then trunks new nothing new.count (trunk_from old.usable maps first 0) [] else stop) (from_well old can.few first 0 well)
      ∙ ap (λ (c : ℕ). trunks new nothing c (trunk_from old.usable maps first 0) []) all.count
      ∙ walked whole_walk

  pub free_is : freelist_walk new nothing ≡ before ++ freelist_walk old nothing
  free_is =
      let found : List Finding = before ++ lists_of old nothing in
      let counted : length (places found) ≡ free_field new =
      ap length (places-append before (lists_of old nothing)) ∙ length-append (places before) (places (lists_of old nothing))
      ∙ (let one = length_from old.usable 0 maps in let two = lists_counted old (free_sound old can) in let three = all.free in omega (arith, one, two, three)) in
      ap (λ (l : List Finding). l ++ (if is_sound l && not (length (places l) == free_field new) then fault (FreeCount (free_field new) (length (places l))) ∷ [] else [])) lists_new
      ∙ ap (λ (b : Bool). found ++ (if is_sound found && not b then fault (FreeCount (free_field new) (length (places found))) ∷ [] else [])) (eq_true _ _ counted)
      ∙ ap (λ (b : Bool). found ++ (if b then fault (FreeCount (free_field new) (length (places found))) ∷ [] else [])) (and_false (is_sound found))
      ∙ append-nil found
      ∙ ap (λ (l : List Finding). before ++ l) (sym (walk_is old (free_sound old can)))

  pub new_free_sound : is_sound (freelist_walk new nothing) ≡ true
  new_free_sound = ap is_sound free_is ∙ sound_both before (freelist_walk old nothing) (sound_from old.usable 0 maps) (free_sound old can)
