-- The old freelist: it has no more pages than are left beside the map pages, and is walked alike behind them.
use Rattle.std.proofs.Common.{◌≡◌, ℕ, suc, zero, ◌+◌, ◌-◌, ◌/◌, ◌≤◌, Bool, true, false, not, ◌&&◌, ◌||◌, ◌==◌, nat_le, if◌then◌else◌, List, [], ◌∷◌, ◌++◌, length, refl, ◌∙◌, ap, arith, append_assoc, length-append}
use Rattle.std.specs.List.{list_all}
use Rattle.std.proofs.lemmas.Bool.{eqb-true}
use Rattle.std.proofs.lemmas.List.{append-nil}
use Rattle.std.proofs.lemmas.List.Folds.{list_any-append}
use Rattle.db_format.specs.Bytes.{u32_at}
use Rattle.db_format.specs.Pages.{Pages, Test, nothing}
use Rattle.db_format.specs.declared.defect.Defect.{Defect}
use Rattle.db_format.specs.declared.defect.Defect.TheVariants.{FreeCount, PageTwice, TrunkFault}
use Rattle.btree_model.specs.Finding.{Finding, fault, is_sound, leaf, place, places}
use Rattle.btree_model.specs.Freelist.{first_trunk, free_field, freelist_walk, is_trunk, leaf_numbers, leaves_of, lists_of, next_trunk, trunk_found, trunks, visit_trunk}
use Rattle.btree_model.specs.Range.{is_in_range}
use Rattle.btree_model.specs.Rest.{AreUnmarked}
use Rattle.btree_model.specs.Walk.{is_met}
use Rattle.btree_model.proofs.FindingLemmas.{places-append}
use Rattle.btree_model.proofs.LeafLemmas.{is_in}
use Rattle.btree_model.proofs.UnmarkedLemmas.{and_left, and_right, or_left, or_right, sound_left, sound_right, unmarked_left, unmarked_right}
use Rattle.map_pages.proofs.Counted.{left, left_less}
use Rattle.map_pages.proofs.MapLaws.{le_is}
use Rattle.map_pages.proofs.TrunkPages.{names_well}

-- ---- a freelist without a defect

no_fault : (b : Bool) (d : Defect) → is_sound (if b then fault d ∷ [] else []) ≡ true → b ≡ false
no_fault true d sound = cc
no_fault false d sound = refl

and_no : (a b : Bool) → a ≡ true → (a && not b) ≡ false → b ≡ true
and_no true true one none = refl
and_no true false one none = cc
and_no false b one none = cc

module _ (pages : Pages) (sound : is_sound (freelist_walk pages nothing) ≡ true) where
  abbrev lists : List Finding
  lists = lists_of pages nothing

  abbrev wrong : Bool
  wrong = is_sound lists && not (length (places lists) == free_field pages)

  abbrev last : List Finding
  last = if wrong then fault (FreeCount (free_field pages) (length (places lists))) ∷ [] else []

  pub lists_sound : is_sound lists ≡ true
  lists_sound = sound_left lists last sound

  right : wrong ≡ false
  right = no_fault wrong (FreeCount (free_field pages) (length (places lists))) (sound_right lists last sound)

  pub lists_counted : length (places lists) ≡ free_field pages
  lists_counted = eqb-true _ _ (and_no (is_sound lists) (length (places lists) == free_field pages) lists_sound right)

  pub walk_is : freelist_walk pages nothing ≡ lists
  walk_is = ap (λ (b : Bool). lists ++ (if b then fault (FreeCount (free_field pages) (length (places lists))) ∷ [] else [])) right ∙ append-nil lists

  pub first_well : names_well pages (first_trunk pages) ≡ true
  first_well = by (names_well pages (first_trunk pages)) lists_sound
    where
      by : (b : Bool) → is_sound (if b then trunks pages nothing pages.count (first_trunk pages) [] else fault (TrunkFault 1) ∷ []) ≡ true → b ≡ true
      by true s = refl
      by false s = cc

  pub lists_are : lists ≡ trunks pages nothing pages.count (first_trunk pages) []
  lists_are = ap (λ (b : Bool). if b then trunks pages nothing pages.count (first_trunk pages) [] else fault (TrunkFault 1) ∷ []) first_well

-- ---- where a page was met

or_again : (a b : Bool) → (a || (b || false)) ≡ (b || (a || false))
or_again true true = refl
or_again true false = refl
or_again false true = refl
or_again false false = refl

or_false : (b : Bool) → (b || false) ≡ b
or_false true = refl
or_false false = refl

or_last : (a b : Bool) → ((a || (b || false)) || false) ≡ (b || (a || false))
or_last true true = refl
or_last true false = refl
or_last false true = refl
or_last false false = refl

or_three : (e b a : Bool) → (e || (b || a)) ≡ (b || (e || a))
or_three true true a = refl
or_three true false a = refl
or_three false true a = refl
or_three false false a = refl

met_more : (met : List Finding) (x : Finding) (n k : ℕ) → places (x ∷ []) ≡ n ∷ [] → is_met nothing (met ++ x ∷ []) k ≡ (n == k || is_met nothing met k)
met_more met x n k is =
    ap (λ (l : List ℕ). is_in l k || false) (places-append met (x ∷ []) ∙ ap (λ (l : List ℕ). places met ++ l) is)
    ∙ ap (λ (b : Bool). b || false) (list_any-append (λ m. m == k) (places met) (n ∷ []))
    ∙ or_last (is_in (places met) k) (n == k)

-- the next number of a trunk may be named
pub next_in_range : (pages : Pages) (bytes : List ℕ) → is_trunk pages bytes ≡ true → names_well pages (next_trunk bytes) ≡ true
next_in_range pages bytes is =
    let few = nat_le (u32_at bytes 4) (pages.usable / 4 - 2) in
    let next = next_trunk bytes == 0 || is_in_range pages (next_trunk bytes) in
    and_right few next (and_left (few && next) (list_all (is_in_range pages) (leaf_numbers bytes)) is)

pub leaves_in_range : (pages : Pages) (bytes : List ℕ) → is_trunk pages bytes ≡ true → list_all (is_in_range pages) (leaf_numbers bytes) ≡ true
leaves_in_range pages bytes is =
    and_right (nat_le (u32_at bytes 4) (pages.usable / 4 - 2) && (next_trunk bytes == 0 || is_in_range pages (next_trunk bytes))) (list_all (is_in_range pages) (leaf_numbers bytes)) is

or_both : (a b : Bool) → a ≡ false → b ≡ false → (a || b) ≡ false
or_both true b p q = p
or_both false b p q = q

named : (pages : Pages) (n : ℕ) (b : Bool) → (n == 0) ≡ b → b ≡ false → (b || is_in_range pages n) ≡ true → is_in_range pages n ≡ true
named pages n true is other well = cc
named pages n false is other well = well

-- ---- how many pages it has

module _ (pages : Pages) (extra : Test) where
  -- the pages that are none of those of the test, nor were met
  abbrev pub seen : List Finding → Test
  seen met k = extra k || is_met nothing met k

  seen_more : (met : List Finding) (x : Finding) (n k : ℕ) → places (x ∷ []) ≡ n ∷ [] → seen (met ++ x ∷ []) k ≡ (n == k || seen met k)
  seen_more met x n k is = ap (λ (b : Bool). extra k || b) (met_more met x n k is) ∙ or_three (extra k) (n == k) (is_met nothing met k)

  abbrev pub unseen : List Finding → ℕ
  unseen met = left (seen met) 1 pages.count

  -- one page more is one less
  one_less : (met : List Finding) (x : Finding) (n : ℕ) → places (x ∷ []) ≡ n ∷ [] → is_in_range pages n ≡ true → extra n ≡ false → is_met nothing met n ≡ false
      → 1 + unseen (met ++ x ∷ []) ≡ unseen met
  one_less met x n is within none fresh =
      let low : 2 ≤ n = le_is 2 n (and_left (nat_le 2 n) (nat_le n pages.count) within) in
      let high : n ≤ pages.count = le_is n pages.count (and_right (nat_le 2 n) (nat_le n pages.count) within) in
      left_less (seen met) (seen (met ++ x ∷ [])) n 1 pages.count (omega (arith, low)) (omega (arith, high)) (or_both (extra n) (is_met nothing met n) none fresh) (λ k. seen_more met x n k is)

  few_leaves : (ns : List ℕ) (met : List Finding) → list_all (is_in_range pages) ns ≡ true → is_sound (leaves_of nothing met ns) ≡ true
      → AreUnmarked extra (places (leaves_of nothing met ns)) → length (places (leaves_of nothing met ns)) + unseen (met ++ leaves_of nothing met ns) ≡ unseen met
  few_leaves [] met within sound none = let same : unseen (met ++ []) ≡ unseen met = ap unseen (append-nil met) in omega (arith, same)
  few_leaves (n ∷ ns) met within sound none =
      by (is_met nothing met n) refl sound none (few_leaves ns (met ++ leaf n ∷ []) (and_right (is_in_range pages n) (list_all (is_in_range pages) ns) within))
    where
      by : (m : Bool) → is_met nothing met n ≡ m → is_sound ((if m then fault (PageTwice n) ∷ [] else []) ++ leaves_of nothing (met ++ leaf n ∷ []) ns) ≡ true
          → AreUnmarked extra (n ∷ places ((if m then fault (PageTwice n) ∷ [] else []) ++ leaves_of nothing (met ++ leaf n ∷ []) ns))
          → (is_sound (leaves_of nothing (met ++ leaf n ∷ []) ns) ≡ true → AreUnmarked extra (places (leaves_of nothing (met ++ leaf n ∷ []) ns))
          → length (places (leaves_of nothing (met ++ leaf n ∷ []) ns)) + unseen ((met ++ leaf n ∷ []) ++ leaves_of nothing (met ++ leaf n ∷ []) ns) ≡ unseen (met ++ leaf n ∷ []))
          → length (n ∷ places ((if m then fault (PageTwice n) ∷ [] else []) ++ leaves_of nothing (met ++ leaf n ∷ []) ns))
          + unseen (met ++ leaf n ∷ ((if m then fault (PageTwice n) ∷ [] else []) ++ leaves_of nothing (met ++ leaf n ∷ []) ns)) ≡ unseen met
      by true is s none later = cc
      by false is s none later =
          let one = one_less met (leaf n) n refl (and_left (is_in_range pages n) (list_all (is_in_range pages) ns) within) (or_left (extra n) _ none) is in
          let more = later s (or_right (extra n) _ none) in
          let same : unseen ((met ++ leaf n ∷ []) ++ leaves_of nothing (met ++ leaf n ∷ []) ns) ≡ unseen (met ++ leaf n ∷ leaves_of nothing (met ++ leaf n ∷ []) ns) =
          ap unseen (append_assoc met (leaf n ∷ []) (leaves_of nothing (met ++ leaf n ∷ []) ns)) in
          omega (arith, one, more, same)

  -- what follows is no more than is left
  abbrev AreFew : List Finding → List Finding → Type 0
  AreFew met found = is_sound found ≡ true → AreUnmarked extra (places found) → length (places found) ≤ unseen met

  few_found : (met : List Finding) (n : ℕ) (bytes : List ℕ) (t : Bool) (after : List Finding → List Finding) → is_trunk pages bytes ≡ t → is_in_range pages n ≡ true
      → is_met nothing met n ≡ false → (t ≡ true → (now : List Finding) → AreFew now (after now)) → AreFew met (place n ∷ trunk_found nothing met n bytes t after)
  few_found met n bytes false after is within fresh behind sound none = cc
  few_found met n bytes true after is within fresh behind sound none =
      let found = leaves_of nothing (met ++ place n ∷ []) (leaf_numbers bytes) in
      let rest = after (met ++ place n ∷ found) in
      let free : AreUnmarked extra (places (found ++ rest)) = or_right (extra n) _ none in
      let one = one_less met (place n) n refl within (or_left (extra n) _ none) fresh in
      let leafs = few_leaves (leaf_numbers bytes) (met ++ place n ∷ []) (leaves_in_range pages bytes is) (sound_left found rest sound) (unmarked_left extra found rest free) in
      let same : unseen ((met ++ place n ∷ []) ++ found) ≡ unseen (met ++ place n ∷ found) = ap unseen (append_assoc met (place n ∷ []) found) in
      let more = behind refl (met ++ place n ∷ found) (sound_right found rest sound) (unmarked_right extra found rest free) in
      let both : length (places (found ++ rest)) ≡ length (places found) + length (places rest) = ap length (places-append found rest) ∙ length-append (places found) (places rest) in
      omega (arith, one, leafs, same, more, both)

  few_visit : (met : List Finding) (n : ℕ) (m accepted : Bool) (after : List Finding → List Finding) → is_met nothing met n ≡ m → is_in_range pages n ≡ true
      → (is_trunk pages (pages.page n) ≡ true → (now : List Finding) → AreFew now (after now)) → AreFew met (place n ∷ visit_trunk pages nothing met n m accepted after)
  few_visit met n true accepted after is within behind sound none = cc
  few_visit met n false false after is within behind sound none = cc
  few_visit met n false true after is within behind sound none =
      few_found met n (pages.page n) (is_trunk pages (pages.page n)) after refl within is behind sound none

  if_few : (met : List Finding) (b : Bool) (other : List Finding) → (b ≡ false → AreFew met other) → AreFew met (if b then [] else other)
  if_few met true other p sound none = omega arith
  if_few met false other p sound none = p refl sound none

  pub few_trunks : (fuel n : ℕ) (met : List Finding) → names_well pages n ≡ true → AreFew met (trunks pages nothing fuel n met)
  few_trunks zero n met well = if_few met (n == 0) _ (λ other sound none. cc)
  few_trunks (suc fuel) n met well =
      if_few met (n == 0) _ (λ other.
      few_visit met n (is_met nothing met n) (pages.accepts n) (trunks pages nothing fuel (next_trunk (pages.page n))) refl (named pages n (n == 0) refl other well)
      (λ trunk now. few_trunks fuel (next_trunk (pages.page n)) now (next_in_range pages (pages.page n) trunk)))

-- ---- behind other findings, over other pages

module _ (old new : Pages) (pre : List Finding) (extra : Test) (count : new.count ≡ old.count) (usable : new.usable ≡ old.usable)
    (are : (n : ℕ) → is_in (places pre) n ≡ extra n)
    (page : (n : ℕ) → is_in_range old n ≡ true → extra n ≡ false → (new.page n ≡ old.page n) × (new.accepts n ≡ old.accepts n)) where
  pub trunk_same : (bytes : List ℕ) → is_trunk new bytes ≡ is_trunk old bytes
  trunk_same bytes = λ i. is_trunk (record { count = count i; usable = usable i; page = old.page; accepts = old.accepts }) bytes

  met_behind : (met : List Finding) (n : ℕ) → extra n ≡ false → is_met nothing (pre ++ met) n ≡ is_met nothing met n
  met_behind met n none =
      ap (λ (b : Bool). b || false)
      (ap (λ (l : List ℕ). is_in l n) (places-append pre met) ∙ list_any-append (λ m. m == n) (places pre) (places met)
      ∙ ap (λ (b : Bool). b || is_in (places met) n) (are n ∙ none))

  abbrev Stay : List Finding → List Finding → Type 0
  Stay found again = is_sound found ≡ true → AreUnmarked extra (places found) → again ≡ found

  leaf_stays : (n : ℕ) (m : Bool) (rest again : List Finding) → Stay rest again
      → is_sound ((if m then fault (PageTwice n) ∷ [] else []) ++ rest) ≡ true → AreUnmarked extra (n ∷ places ((if m then fault (PageTwice n) ∷ [] else []) ++ rest))
      → leaf n ∷ ((if m then fault (PageTwice n) ∷ [] else []) ++ again) ≡ leaf n ∷ ((if m then fault (PageTwice n) ∷ [] else []) ++ rest)
  leaf_stays n true rest again p sound none = cc
  leaf_stays n false rest again p sound none = ap (λ (l : List Finding). leaf n ∷ l) (p sound (or_right (extra n) _ none))

  leaves_stay : (ns : List ℕ) (met : List Finding) → Stay (leaves_of nothing met ns) (leaves_of nothing (pre ++ met) ns)
  leaves_stay [] met sound none = refl
  leaves_stay (n ∷ ns) met sound none =
      ap (λ (m : Bool). leaf n ∷ ((if m then fault (PageTwice n) ∷ [] else []) ++ leaves_of nothing ((pre ++ met) ++ leaf n ∷ []) ns)) (met_behind met n (or_left (extra n) _ none))
      ∙ ap (λ (l : List Finding). leaf n ∷ ((if is_met nothing met n then fault (PageTwice n) ∷ [] else []) ++ leaves_of nothing l ns)) (append_assoc pre met (leaf n ∷ []))
      ∙ leaf_stays n (is_met nothing met n) (leaves_of nothing (met ++ leaf n ∷ []) ns) (leaves_of nothing (pre ++ (met ++ leaf n ∷ [])) ns) (leaves_stay ns (met ++ leaf n ∷ [])) sound none

  -- so it is for findings, few enough
  abbrev StayFew : ℕ → List Finding → List Finding → Type 0
  StayFew fuel found again = is_sound found ≡ true → AreUnmarked extra (places found) → length (places found) ≤ fuel → again ≡ found

  found_stays : (fuel : ℕ) (met : List Finding) (n : ℕ) (bytes : List ℕ) (t : Bool) (after again : List Finding → List Finding)
      → (t ≡ true → (now : List Finding) → StayFew fuel (after now) (again (pre ++ now)))
      → StayFew fuel (trunk_found nothing met n bytes t after) (trunk_found nothing (pre ++ met) n bytes t again)
  found_stays fuel met n bytes false after again behind sound none few = refl
  found_stays fuel met n bytes true after again behind sound none few =
      let found = leaves_of nothing (met ++ place n ∷ []) (leaf_numbers bytes) in
      let rest = after (met ++ place n ∷ found) in
      let both : length (places (found ++ rest)) ≡ length (places found) + length (places rest) = ap length (places-append found rest) ∙ length-append (places found) (places rest) in
      let leafs : leaves_of nothing ((pre ++ met) ++ place n ∷ []) (leaf_numbers bytes) ≡ found =
      ap (λ (l : List Finding). leaves_of nothing l (leaf_numbers bytes)) (append_assoc pre met (place n ∷ []))
      ∙ leaves_stay (leaf_numbers bytes) (met ++ place n ∷ []) (sound_left found rest sound) (unmarked_left extra found rest none) in
      ap (λ (l : List Finding). l ++ again ((pre ++ met) ++ place n ∷ l)) leafs
      ∙ ap (λ (l : List Finding). found ++ again l) (append_assoc pre met (place n ∷ found))
      ∙ ap (λ (l : List Finding). found ++ l) (behind refl (met ++ place n ∷ found) (sound_right found rest sound) (unmarked_right extra found rest none) (omega (arith, few, both)))

  visit_stays : (fuel : ℕ) (met : List Finding) (n : ℕ) (m accepted : Bool) (after again : List Finding → List Finding) → new.page n ≡ old.page n
      → (is_trunk old (old.page n) ≡ true → (now : List Finding) → StayFew fuel (after now) (again (pre ++ now)))
      → StayFew fuel (visit_trunk old nothing met n m accepted after) (visit_trunk new nothing (pre ++ met) n m accepted again)
  visit_stays fuel met n true accepted after again same behind sound none few = refl
  visit_stays fuel met n false false after again same behind sound none few = refl
  visit_stays fuel met n false true after again same behind sound none few =
      ap (λ (bytes : List ℕ). trunk_found nothing (pre ++ met) n bytes (is_trunk new bytes) again) same
      ∙ ap (λ (t : Bool). trunk_found nothing (pre ++ met) n (old.page n) t again) (trunk_same (old.page n))
      ∙ found_stays fuel met n (old.page n) (is_trunk old (old.page n)) after again behind sound none few

  if_zero : (fuel n : ℕ) (met : List Finding) → (n == 0) ≡ true → trunks new nothing fuel n (pre ++ met) ≡ []
  if_zero zero n met is = rw is refl
  if_zero (suc fuel) n met is = rw is refl

  pub trunks_stay : (fuel again n : ℕ) (met : List Finding) → names_well old n ≡ true → StayFew again (trunks old nothing fuel n met) (trunks new nothing again n (pre ++ met))
  trunks_stay zero again n met well sound none few = by (n == 0) refl sound
    where
      by : (b : Bool) → (n == 0) ≡ b → is_sound (if b then [] else place n ∷ (fault (PageTwice n) ∷ [])) ≡ true
          → trunks new nothing again n (pre ++ met) ≡ (if b then [] else place n ∷ (fault (PageTwice n) ∷ []))
      by true is s = if_zero again n met is
      by false is s = cc
  trunks_stay (suc fuel) zero n met well sound none few = by (n == 0) refl few
    where
      by : (b : Bool) → (n == 0) ≡ b → length (places (if b then [] else place n ∷ visit_trunk old nothing met n (is_met nothing met n) (old.accepts n) (trunks old nothing fuel (next_trunk (old.page n))))) ≤ 0
          → trunks new nothing zero n (pre ++ met) ≡ (if b then [] else place n ∷ visit_trunk old nothing met n (is_met nothing met n) (old.accepts n) (trunks old nothing fuel (next_trunk (old.page n))))
      by true is less = if_zero zero n met is
      by false is less = absurd (omega (arith, less))
  trunks_stay (suc fuel) (suc again) n met well sound none few =
      by (n == 0) refl sound none few (λ trunk now. trunks_stay fuel again (next_trunk (old.page n)) now (next_in_range old (old.page n) trunk))
    where
      by : (b : Bool) → (n == 0) ≡ b
          → is_sound (if b then [] else place n ∷ visit_trunk old nothing met n (is_met nothing met n) (old.accepts n) (trunks old nothing fuel (next_trunk (old.page n)))) ≡ true
          → AreUnmarked extra (places (if b then [] else place n ∷ visit_trunk old nothing met n (is_met nothing met n) (old.accepts n) (trunks old nothing fuel (next_trunk (old.page n)))))
          → length (places (if b then [] else place n ∷ visit_trunk old nothing met n (is_met nothing met n) (old.accepts n) (trunks old nothing fuel (next_trunk (old.page n))))) ≤ suc again
          → (is_trunk old (old.page n) ≡ true → (now : List Finding) → StayFew again (trunks old nothing fuel (next_trunk (old.page n)) now) (trunks new nothing again (next_trunk (old.page n)) (pre ++ now)))
          → (if b then [] else place n ∷ visit_trunk new nothing (pre ++ met) n (is_met nothing (pre ++ met) n) (new.accepts n) (trunks new nothing again (next_trunk (new.page n))))
          ≡ (if b then [] else place n ∷ visit_trunk old nothing met n (is_met nothing met n) (old.accepts n) (trunks old nothing fuel (next_trunk (old.page n))))
      by true is s free less later = refl
      by false is s free less later =
          let within = named old n (n == 0) refl is well in
          let apart : extra n ≡ false = or_left (extra n) _ free in
          let same = page n within apart in
          ap (λ (l : List Finding). place n ∷ l)
          (ap (λ (m : Bool). visit_trunk new nothing (pre ++ met) n m (new.accepts n) (trunks new nothing again (next_trunk (new.page n)))) (met_behind met n apart)
          ∙ ap (λ (a : Bool). visit_trunk new nothing (pre ++ met) n (is_met nothing met n) a (trunks new nothing again (next_trunk (new.page n)))) same.1
          ∙ ap (λ (bytes : List ℕ). visit_trunk new nothing (pre ++ met) n (is_met nothing met n) (old.accepts n) (trunks new nothing again (next_trunk bytes))) same.0
          ∙ visit_stays again met n (is_met nothing met n) (old.accepts n) (trunks old nothing fuel (next_trunk (old.page n))) (trunks new nothing again (next_trunk (old.page n))) same.0 later s
          (or_right (extra n) _ free) (omega (arith, less)))
