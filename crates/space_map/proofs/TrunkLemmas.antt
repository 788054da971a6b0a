-- One trunk of the freelist.
use Rattle.std.proofs.Common.{◌≡◌, not, ℕ, zero, suc, ◌+◌, ◌-◌, ◌*◌, ◌<◌, ◌≤◌, ◌⊎◌, Bool, true, false, List, [], ◌∷◌, ◌++◌, ◌&&◌, ◌||◌, nat_le, ◌/◌, ◌==◌, length, slice_get, Some, if◌then◌else◌, arith, refl, ap, sym, subst, ◌∙◌}
use Rattle.std.specs.List.{Contains, list_all, list_any}
use Rattle.std.proofs.lemmas.Bool.{leb-true, le-leb, eq-eqb}
use Rattle.std.proofs.lemmas.List.{append_assoc, append-nil, length-append}
use Rattle.std.proofs.lemmas.List.Sums.{sum_by-cons}
use Rattle.std.proofs.lemmas.List.Elements.{Contains-append_left, Contains-append_right}
use Rattle.db_format.specs.Bytes.{u32_at}
use Rattle.db_format.specs.declared.defect.Defect.{Defect}
use Rattle.db_format.specs.declared.defect.Defect.TheVariants.{PageTwice, TrunkFault, FreeCount}
use Rattle.btree_model.specs.Finding.{Finding, place, leaf, entry, key, fault, refused, places, leaves, faults, refusals, is_sound}
use Rattle.btree_model.specs.Freelist.{first_trunk, free_field, lists_of, freelist_walk, is_trunk, next_trunk, numbers_at, leaf_numbers, leaves_of, trunks, visit_trunk}
use Rattle.db_format.specs.Pages.{Pages, Test, nothing, also, is_page}
use Rattle.btree_model.specs.Range.{is_in_range}
use Rattle.btree_model.specs.Walk.{is_met}
use Rattle.btree_walk.proofs.ChainLemmas.{differ, sound_faults}
use Rattle.btree_model.proofs.FindingLemmas.{faults-append, refusals-append, places-append, sound_both, also-append}
use Rattle.btree_walk.specs.declared.error.WalkError.{WalkError}
use Rattle.btree_walk.specs.declared.error.WalkError.TheVariants.{Defect as Found, Source, OutOfMemory}
use Rattle.btree_walk.specs.Causes.{IsMarked, IsRefused}
use Rattle.db_format.specs.Seen.{marked, open_count}
use Rattle.space_map.specs.declared.trunk.Trunk.{Trunk}
use Rattle.space_map.specs.Walk.{IsFreeWalkAt, IsInside, IsTrunk, IsDone, IsNumber, IsFirst, IsStopped, IsLeafTwice, first_fault}

-- the numbers from the i-th on
pub from_step : (bytes : List ℕ) (size i : ℕ) → i < size
    → numbers_at bytes (8 + 4 * i) (size - i) ≡ u32_at bytes (8 + 4 * i) ∷ numbers_at bytes (8 + 4 * (i + 1)) (size - (i + 1))
from_step bytes size i h =
    let e : size - i ≡ suc (size - (i + 1)) = omega arith in
    let f : 8 + 4 * i + 4 ≡ 8 + 4 * (i + 1) = omega arith in
    rw e (ap (λ at. u32_at bytes (8 + 4 * i) ∷ numbers_at bytes at (size - (i + 1))) f)

and_false : (a : Bool) → (a && false) ≡ false
and_false true = refl
and_false false = refl

-- a number in the list of leaves is out of range
pub bad_leaf : (pages : Pages) (bytes : List ℕ) (size i n : ℕ) → size ≡ u32_at bytes 4
    → list_all (is_in_range pages) (numbers_at bytes 8 size) ≡ list_all (is_in_range pages) (numbers_at bytes (8 + 4 * i) (size - i))
    → i < size → n ≡ u32_at bytes (8 + 4 * i) → is_in_range pages n ≡ false → is_trunk pages bytes ≡ false
bad_leaf pages bytes size i n sized kept more reads bad =
    let here : list_all (is_in_range pages) (numbers_at bytes 8 size) ≡ false =
    kept ∙ ap (list_all (is_in_range pages)) (from_step bytes size i more) ∙ ap (λ b. b && list_all (is_in_range pages) (numbers_at bytes (8 + 4 * (i + 1)) (size - (i + 1)))) (ap (is_in_range pages) (sym reads) ∙ bad)
    in
    let there : list_all (is_in_range pages) (leaf_numbers bytes) ≡ false = ap (λ k. list_all (is_in_range pages) (numbers_at bytes 8 k)) (sym sized) ∙ here in
    rw there (and_false _)

pub good_leaf : (pages : Pages) (bytes : List ℕ) (size i n : ℕ)
    → list_all (is_in_range pages) (numbers_at bytes 8 size) ≡ list_all (is_in_range pages) (numbers_at bytes (8 + 4 * i) (size - i))
    → i < size → n ≡ u32_at bytes (8 + 4 * i) → is_in_range pages n ≡ true
    → list_all (is_in_range pages) (numbers_at bytes 8 size) ≡ list_all (is_in_range pages) (numbers_at bytes (8 + 4 * (i + 1)) (size - (i + 1)))
good_leaf pages bytes size i n kept more reads good =
    kept ∙ ap (list_all (is_in_range pages)) (from_step bytes size i more) ∙ ap (λ b. b && list_all (is_in_range pages) (numbers_at bytes (8 + 4 * (i + 1)) (size - (i + 1)))) (ap (is_in_range pages) (sym reads) ∙ good)

-- what is_trunk says of the leaves
and_left : (a b : Bool) → (a && b) ≡ true → a ≡ true
and_left true b h = refl
and_left false b h = h

and_right : (a b : Bool) → (a && b) ≡ true → b ≡ true
and_right true b h = h
and_right false b h = cc

pub trunk_fits : (pages : Pages) (bytes : List ℕ) → is_trunk pages bytes ≡ true → u32_at bytes 4 ≤ pages.usable / 4 - 2
trunk_fits pages bytes h =
    let both : (nat_le (u32_at bytes 4) (pages.usable / 4 - 2) && (next_trunk bytes == 0 || is_in_range pages (next_trunk bytes))) ≡ true = and_left _ (list_all (is_in_range pages) (leaf_numbers bytes)) h in
    leb-true (u32_at bytes 4) (pages.usable / 4 - 2) (and_left _ (next_trunk bytes == 0 || is_in_range pages (next_trunk bytes)) both)

numbers_all : (pages : Pages) (bytes : List ℕ) (more at i : ℕ) → list_all (is_in_range pages) (numbers_at bytes at more) ≡ true → i < more
    → is_in_range pages (u32_at bytes (at + 4 * i)) ≡ true
numbers_all pages bytes zero at i h less = absurd (omega arith)
numbers_all pages bytes (suc more) at zero h less = let e : at + 4 * 0 ≡ at = omega arith in rw e (and_left _ _ h)
numbers_all pages bytes (suc more) at (suc i) h less =
    let e : at + 4 * suc i ≡ at + 4 + 4 * i = omega arith in
    rw e (numbers_all pages bytes more (at + 4) i (and_right _ _ h) (omega arith))

pub trunk_leaf : (pages : Pages) (bytes : List ℕ) (i : ℕ) → is_trunk pages bytes ≡ true → i < u32_at bytes 4 → is_in_range pages (u32_at bytes (8 + 4 * i)) ≡ true
trunk_leaf pages bytes i h less =
    let all : list_all (is_in_range pages) (leaf_numbers bytes) ≡ true =
    and_right (nat_le (u32_at bytes 4) (pages.usable / 4 - 2) && (next_trunk bytes == 0 || is_in_range pages (next_trunk bytes))) _ h
    in
    numbers_all pages bytes (u32_at bytes 4) 8 i all less

pub range_low : (pages : Pages) (n : ℕ) → is_in_range pages n ≡ true → 2 ≤ n
range_low pages n h = leb-true 2 n (and_left (nat_le 2 n) (nat_le n pages.count) h)

pub range_high : (pages : Pages) (n : ℕ) → is_in_range pages n ≡ true → n ≤ pages.count
range_high pages n h = leb-true n pages.count (and_right (nat_le 2 n) (nat_le n pages.count) h)

not_zero : (n : ℕ) → 2 ≤ n → (n == 0) ≡ false
not_zero n h = differ n 0 (λ z. let e : n ≡ 0 = z in omega arith)

pub leaves-append : (xs ys : List Finding) → leaves (xs ++ ys) ≡ leaves xs ++ leaves ys
leaves-append [] ys = refl
leaves-append (key k ∷ xs) ys = leaves-append xs ys
leaves-append (place n ∷ xs) ys = leaves-append xs ys
leaves-append (leaf n ∷ xs) ys = ap (λ l. n ∷ l) (leaves-append xs ys)
leaves-append (entry r ∷ xs) ys = leaves-append xs ys
leaves-append (fault d ∷ xs) ys = leaves-append xs ys
leaves-append (refused n ∷ xs) ys = leaves-append xs ys

-- the first defect of a list that begins without one
pub first_after : (all met left : List Finding) → all ≡ met ++ left → is_sound met ≡ true → first_fault all ≡ first_fault left
first_after all met left whole sound =
    ap first_fault whole ∙ ap (λ ds. slice_get ds 0) (faults-append met left ∙ ap (λ ds. ds ++ faults left) (sound_faults met sound))

pub page_in : (pages : Pages) (n : ℕ) → 1 ≤ n → n ≤ pages.count → is_page pages n ≡ true
page_in pages n low high = ap (λ b. b && nat_le n pages.count) (le-leb 1 n low) ∙ le-leb n pages.count high

or_last : (a b : Bool) → b ≡ true → (a || b) ≡ true
or_last true b h = refl
or_last false b h = h

-- a page of the first places is one of all
pub also_front : (xs ys : List ℕ) (taken : Test) (n : ℕ) → also xs taken n ≡ true → also (xs ++ ys) taken n ≡ true
also_front xs ys taken n h = ap (λ t. t n) (also-append xs ys taken) ∙ or_last (list_any (λ m. m == n) ys) (also xs taken n) h

pub marked_met : (all met left : List Finding) (taken seen : Test) → all ≡ met ++ left → seen ≡ also (places met) taken → IsMarked all taken seen
marked_met all met left taken seen whole is = record { found = met; more = left; whole = whole; marks = is }

-- one place more
pub marks_on : (met : List Finding) (f : Finding) (n : ℕ) (taken seen : Test) → places (f ∷ []) ≡ n ∷ [] → seen ≡ also (places met) taken
    → also (n ∷ []) seen ≡ also (places (met ++ f ∷ [])) taken
marks_on met f n taken seen one is =
    ap (also (n ∷ [])) is ∙ sym (also-append (places met) (n ∷ []) taken)
    ∙ ap (λ ns. also ns taken) (ap (λ ns. places met ++ ns) (sym one) ∙ sym (places-append met (f ∷ [])))

module _ (pages : Pages) (all : List Finding) (taken : Test) (fuel : ℕ) where
  -- the next leaf of a trunk, which has no mark
  pub leaf_on : (next n : ℕ) (ns : List ℕ) (found : ℕ) (seen free : Test) → IsInside pages all taken fuel next (n ∷ ns) found seen free
      → seen n ≡ false → IsInside pages all taken fuel next ns (found + 1) (also (n ∷ []) seen) (also (n ∷ []) free)
  leaf_on next n ns found seen free at fresh =
      let new : is_met taken at.met n ≡ false = sym (ap (λ t. t n) at.marks) ∙ fresh in
      let later : List Finding = at.met ++ leaf n ∷ [] in
      let left : List Finding = leaves_of taken later ns in
      let first : leaves_of taken at.met (n ∷ ns) ≡ leaf n ∷ left = rw new refl in
      record {
        met = later;
        whole =
            at.whole ∙ ap (λ l. at.met ++ (l ++ trunks pages taken fuel next (at.met ++ l))) first
            ∙ ap (λ m. at.met ++ (leaf n ∷ (left ++ trunks pages taken fuel next m))) (sym (append_assoc at.met (leaf n ∷ []) left))
            ∙ sym (append_assoc at.met (leaf n ∷ []) (left ++ trunks pages taken fuel next (later ++ left)));
        sound = sound_both at.met (leaf n ∷ []) at.sound refl;
        marks = marks_on at.met (leaf n) n taken seen refl at.marks;
        leafs =
            ap (also (n ∷ [])) at.leafs ∙ sym (also-append (leaves at.met) (n ∷ []) nothing)
            ∙ ap (λ ns. also ns nothing) (sym (leaves-append at.met (leaf n ∷ [])));
        count =
            ap (λ k. k + 1) at.count
            ∙ sym (ap length (places-append at.met (leaf n ∷ [])) ∙ length-append (places at.met) (n ∷ []));
      }

  -- the next leaf of a trunk, which has a mark
  pub leaf_twice : (next n : ℕ) (ns : List ℕ) (found : ℕ) (seen free : Test) → IsInside pages all taken fuel next (n ∷ ns) found seen free
      → seen n ≡ true → IsLeafTwice all taken (also (n ∷ []) seen) n
  leaf_twice next n ns found seen free at twice =
      let old : is_met taken at.met n ≡ true = sym (ap (λ t. t n) at.marks) ∙ twice in
      record {
        first = first_after all at.met _ at.whole at.sound ∙ rw old refl;
        marks =
            marked_met all (at.met ++ leaf n ∷ []) _ taken (also (n ∷ []) seen) (at.whole ∙ sym (append_assoc at.met (leaf n ∷ []) _))
            (marks_on at.met (leaf n) n taken seen refl at.marks);
      }

  pub leaves_done : (next found : ℕ) (seen free : Test) → IsInside pages all taken fuel next [] found seen free → IsFreeWalkAt pages all taken fuel next found seen free
  leaves_done next found seen free at =
      record {
        met = at.met;
        whole = at.whole ∙ ap (λ m. at.met ++ trunks pages taken fuel next m) (append-nil at.met);
        sound = at.sound;
        marks = at.marks;
        leafs = at.leafs;
        count = at.count;
      }

  module _ (n found : ℕ) (seen free : Test) (at : IsFreeWalkAt pages all taken (suc fuel) n found seen free) (some : 2 ≤ n) where
    named : (n == 0) ≡ false
    named = not_zero n some

    visited : all ≡ at.met ++ (place n ∷ visit_trunk pages taken at.met n (is_met taken at.met n) (pages.accepts n) (trunks pages taken fuel (next_trunk (pages.page n))))
    visited = rw named at at.whole

    trunk_place : Contains (places all) n
    trunk_place =
        subst (λ ns. Contains ns n) (sym (ap places visited ∙ places-append at.met _))
        (Contains-append_right (places at.met) _ n (0, omega arith, refl))

    trunk_barred : seen n ≡ false → pages.accepts n ≡ false → Contains (refusals all) n
    trunk_barred fresh barred =
        let new : is_met taken at.met n ≡ false = sym (ap (λ t. t n) at.marks) ∙ fresh in
        subst (λ ns. Contains ns n) (sym (ap refusals visited ∙ refusals-append at.met _))
        (Contains-append_right (refusals at.met) _ n (rw (new, barred) (0, omega arith, refl)))

    pub trunk_refused : {R : Type 0} (refuses : Pages → ℕ → R → Type 0) (refusal : R) → n ≤ pages.count → refuses pages n refusal → seen n ≡ false → IsRefused refuses pages all refusal
    trunk_refused refuses refusal most is fresh =
        record {
          page = n;
          range = page_in pages n (omega arith) most;
          placed = trunk_place;
          refused = is;
          listed = trunk_barred fresh;
        }

    pub trunk_marks : IsMarked all taken (also (n ∷ []) seen)
    trunk_marks =
        marked_met all (at.met ++ place n ∷ []) _ taken (also (n ∷ []) seen) (visited ∙ sym (append_assoc at.met (place n ∷ []) _))
        (marks_on at.met (place n) n taken seen refl at.marks)

    pub trunk_twice : seen n ≡ true → first_fault all ≡ Some (PageTwice n)
    trunk_twice twice =
        let old : is_met taken at.met n ≡ true = sym (ap (λ t. t n) at.marks) ∙ twice in
        first_after all at.met _ visited at.sound ∙ rw old refl

    pub trunk_fault : seen n ≡ false → pages.accepts n ≡ true → is_trunk pages (pages.page n) ≡ false → first_fault all ≡ Some (TrunkFault n)
    trunk_fault fresh accepted unsound =
        let new : is_met taken at.met n ≡ false = sym (ap (λ t. t n) at.marks) ∙ fresh in
        first_after all at.met _ visited at.sound ∙ rw (new, accepted, unsound) refl

    pub trunk_in : seen n ≡ false → pages.accepts n ≡ true → is_trunk pages (pages.page n) ≡ true
        → IsInside pages all taken fuel (next_trunk (pages.page n)) (leaf_numbers (pages.page n)) (found + 1) (also (n ∷ []) seen) free
    trunk_in fresh accepted is =
        let new : is_met taken at.met n ≡ false = sym (ap (λ t. t n) at.marks) ∙ fresh in
        let later : List Finding = at.met ++ place n ∷ [] in
        let left : List Finding = leaves_of taken later (leaf_numbers (pages.page n)) in
        let after : List Finding → List Finding = trunks pages taken fuel (next_trunk (pages.page n)) in
        let first : all ≡ at.met ++ (place n ∷ (left ++ after (at.met ++ place n ∷ left))) = rw (new, accepted, is) at visited in
        record {
          met = later;
          whole =
              first
              ∙ ap (λ m. at.met ++ (place n ∷ (left ++ after m))) (sym (append_assoc at.met (place n ∷ []) left))
              ∙ sym (append_assoc at.met (place n ∷ []) (left ++ after (later ++ left)));
          sound = sound_both at.met (place n ∷ []) at.sound refl;
          marks = marks_on at.met (place n) n taken seen refl at.marks;
          leafs = at.leafs ∙ ap (λ ns. also ns nothing) (sym (leaves-append at.met (place n ∷ []) ∙ append-nil (leaves at.met)));
          count =
              ap (λ k. k + 1) at.count
              ∙ sym (ap length (places-append at.met (place n ∷ [])) ∙ length-append (places at.met) (n ∷ []));
        }

    -- the same, with the numbers that were read off the page
    pub trunk_open : (bytes : List ℕ) (trunk : Trunk) → bytes ≡ pages.page n → IsTrunk pages bytes trunk → seen n ≡ false → pages.accepts n ≡ true
        → IsInside pages all taken fuel trunk.next (numbers_at bytes 8 trunk.size) (found + 1) (also (n ∷ []) seen) free
    trunk_open bytes trunk body is fresh accepted =
        rw (is.next, is.size)
        (subst (λ b. IsInside pages all taken fuel (next_trunk b) (leaf_numbers b) (found + 1) (also (n ∷ []) seen) free) (sym body)
        (trunk_in fresh accepted (sym (ap (is_trunk pages) body) ∙ is.sound)))

    pub trunk_closed : (bytes : List ℕ) → bytes ≡ pages.page n → is_trunk pages bytes ≡ false → seen n ≡ false → pages.accepts n ≡ true
        → first_fault all ≡ Some (TrunkFault n)
    trunk_closed bytes body unsound fresh accepted = trunk_fault fresh accepted (sym (ap (is_trunk pages) body) ∙ unsound)

pub trunk_room : (pages : Pages) (bytes : List ℕ) (trunk : Trunk) → IsTrunk pages bytes trunk → pages.usable ≡ length bytes → 480 ≤ pages.usable
    → 8 + 4 * trunk.size ≤ length bytes
trunk_room pages bytes trunk is whole least =
    let size : trunk.size ≡ u32_at bytes 4 = is.size in
    let fits : u32_at bytes 4 ≤ pages.usable / 4 - 2 = trunk_fits pages bytes is.sound in
    omega arith

pub leaf_marked : (pages : Pages) (bytes : List ℕ) (trunk : Trunk) (size i : ℕ) → IsTrunk pages bytes trunk → size ≡ pages.count + 1 → i < trunk.size
    → u32_at bytes (8 + 4 * i) < size
leaf_marked pages bytes trunk size i is counted more =
    let below : u32_at bytes (8 + 4 * i) ≤ pages.count = range_high pages _ (trunk_leaf pages bytes i is.sound (subst (λ k. i < k) is.size more)) in
    omega arith

pub leaf_low : (pages : Pages) (bytes : List ℕ) (trunk : Trunk) (i : ℕ) → IsTrunk pages bytes trunk → i < trunk.size → 2 ≤ u32_at bytes (8 + 4 * i)
leaf_low pages bytes trunk i is more = range_low pages _ (trunk_leaf pages bytes i is.sound (subst (λ k. i < k) is.size more))

-- the end of the walk
module _ (pages : Pages) (all : List Finding) (taken : Test) where
  trunks_end : (fuel : ℕ) (met : List Finding) → trunks pages taken fuel 0 met ≡ []
  trunks_end zero met = refl
  trunks_end (suc fuel) met = refl

  pub walk_done : (fuel found : ℕ) (seen free : Test) → IsFreeWalkAt pages all taken fuel 0 found seen free → IsDone all taken found seen free
  walk_done fuel found seen free at =
      let is : all ≡ at.met = at.whole ∙ ap (λ l. at.met ++ l) (trunks_end fuel at.met) ∙ append-nil at.met in
      record {
        sound = ap is_sound is ∙ at.sound;
        marks = at.marks ∙ ap (λ l. also (places l) taken) (sym is);
        leafs = at.leafs ∙ ap (λ l. also (leaves l) nothing) (sym is);
        count = at.count ∙ ap (λ l. length (places l)) (sym is);
      }

  -- more trunks than pages
  pub walk_over : {R : Type 0} (refuses : Pages → ℕ → R → Type 0) (n found : ℕ) (seen free : Test) → (n ≡ 0 → ⊥) → IsFreeWalkAt pages all taken 0 n found seen free
      → IsStopped refuses pages all taken seen (Found (PageTwice n))
  walk_over refuses n found seen free some at =
      let named : (n == 0) ≡ false = differ n 0 some in
      record {
        first = first_after all at.met _ at.whole at.sound ∙ rw named refl;
        marks = marked_met all at.met _ taken seen at.whole at.marks;
      }

-- what holds of the first findings holds of all
first_got : (ds es : List Defect) (d : Defect) → slice_get ds 0 ≡ Some d → slice_get (ds ++ es) 0 ≡ Some d
first_got [] es d h = cc
first_got (c ∷ ds) es d h = h

pub first_joined : (xs ys : List Finding) (d : Defect) → first_fault xs ≡ Some d → first_fault (xs ++ ys) ≡ Some d
first_joined xs ys d h = ap (λ ds. slice_get ds 0) (faults-append xs ys) ∙ first_got (faults xs) (faults ys) d h

module _ {R : Type 0} (refuses : Pages → ℕ → R → Type 0) (pages : Pages) (xs ys : List Finding) where
  pub first_for : (why : WalkError R) → IsFirst refuses pages xs why → IsFirst refuses pages (xs ++ ys) why
  first_for (Found d) h = first_joined xs ys d h
  first_for (Source r) h =
      record {
        page = h.page;
        range = h.range;
        placed = subst (λ ns. Contains ns h.page) (sym (places-append xs ys)) (Contains-append_left (places xs) (places ys) h.page h.placed);
        refused = h.refused;
        listed = λ barred. subst (λ ns. Contains ns h.page) (sym (refusals-append xs ys)) (Contains-append_left (refusals xs) (refusals ys) h.page (h.listed barred));
      }
  first_for OutOfMemory h = tt

pub marked_joined : (xs ys : List Finding) (taken seen : Test) → IsMarked xs taken seen → IsMarked (xs ++ ys) taken seen
marked_joined xs ys taken seen is =
    record {
      found = is.found;
      more = is.more ++ ys;
      whole = ap (λ l. l ++ ys) is.whole ∙ append_assoc is.found is.more ys;
      marks = is.marks;
    }

-- marks: no more pages are open than there are marks
pub open_most : (marks : List Bool) → open_count marks ≤ length marks
open_most [] = omega arith
open_most (true ∷ marks) =
    let m : open_count marks ≤ length marks = open_most marks in
    let e : open_count (true ∷ marks) ≡ 0 + open_count marks = sum_by-cons _ true marks in
    omega arith
open_most (false ∷ marks) =
    let m : open_count marks ≤ length marks = open_most marks in
    let e : open_count (false ∷ marks) ≡ 1 + open_count marks = sum_by-cons _ false marks in
    omega arith

-- fewer marks were set than there are numbers, since number 0 is never among them
pub room : (old new : List Bool) → 0 < length old → length new ≡ length old → marked new 0 ≡ marked old 0 → open_count old < open_count new + length old
room [] new some same first = absurd (omega arith)
room (b ∷ old) [] some same first = absurd (omega arith)
room (true ∷ old) (c ∷ new) some same first =
    let most : open_count old ≤ length old = open_most old in
    let e : open_count (true ∷ old) ≡ 0 + open_count old = sum_by-cons _ true old in
    omega arith
room (false ∷ old) (true ∷ new) some same first = cc
room (false ∷ old) (false ∷ new) some same first =
    let most : open_count old ≤ length old = open_most old in
    let e : open_count (false ∷ old) ≡ 1 + open_count old = sum_by-cons _ false old in
    let f : open_count (false ∷ new) ≡ 1 + open_count new = sum_by-cons _ false new in
    omega arith

pub zero_on : (n : ℕ) (test : Test) → 2 ≤ n → also (n ∷ []) test 0 ≡ test 0
zero_on n test h = rw (not_zero n h) refl

pub number_since : (pages earlier : Pages) (n : ℕ) → pages.count ≡ earlier.count → IsNumber pages n → IsNumber earlier n
number_since pages earlier n same is = subst (λ k. (n ≡ 0) ⊎ ((2 ≤ n) × (n ≤ k))) same is

-- the whole part
module _ (pages : Pages) (taken : Test) where
  pub lists_at : (n : ℕ) (free : Test) → n ≡ first_trunk pages → free ≡ nothing → (n == 0 || is_in_range pages n) ≡ true
      → IsFreeWalkAt pages (lists_of pages taken) taken pages.count n 0 taken free
  lists_at n free is empty named =
      let start : (first_trunk pages == 0 || is_in_range pages (first_trunk pages)) ≡ true = subst (λ k. (k == 0 || is_in_range pages k) ≡ true) is named in
      record {
        met = [];
        whole = rw (start, is) refl;
        sound = refl;
        marks = refl;
        leafs = empty;
        count = refl;
      }

  pub lists_out : (n : ℕ) → n ≡ first_trunk pages → (n == 0 || is_in_range pages n) ≡ false → first_fault (freelist_walk pages taken) ≡ Some (TrunkFault 1)
  lists_out n is named =
      let start : (first_trunk pages == 0 || is_in_range pages (first_trunk pages)) ≡ false = subst (λ k. (k == 0 || is_in_range pages k) ≡ false) is named in
      rw start refl

  pub freelist_done : (kept found : ℕ) (seen free : Test) → kept ≡ free_field pages → found ≡ kept → IsDone (lists_of pages taken) taken found seen free
      → IsDone (freelist_walk pages taken) taken found seen free
  freelist_done kept found seen free is same done =
      let equal : (length (places (lists_of pages taken)) == free_field pages) ≡ true = eq-eqb _ _ (sym done.count ∙ same ∙ is) in
      let whole : freelist_walk pages taken ≡ lists_of pages taken =
      ap (λ both. lists_of pages taken ++ (if both then fault (FreeCount (free_field pages) (length (places (lists_of pages taken)))) ∷ [] else []))
      (ap (λ b. b && not (length (places (lists_of pages taken)) == free_field pages)) done.sound ∙ ap not equal)
      ∙ append-nil (lists_of pages taken)
      in
      subst (λ all. IsDone all taken found seen free) (sym whole) done

  pub freelist_miscounted : (kept found : ℕ) (seen free : Test) → kept ≡ free_field pages → (found ≡ kept → ⊥) → IsDone (lists_of pages taken) taken found seen free
      → first_fault (freelist_walk pages taken) ≡ Some (FreeCount kept found)
  freelist_miscounted kept found seen free is other done =
      let unequal : (length (places (lists_of pages taken)) == free_field pages) ≡ false =
      differ _ _ (λ e. other (done.count ∙ e ∙ sym is))
      in
      let last : freelist_walk pages taken ≡ lists_of pages taken ++ fault (FreeCount (free_field pages) (length (places (lists_of pages taken)))) ∷ [] =
      ap (λ both. lists_of pages taken ++ (if both then fault (FreeCount (free_field pages) (length (places (lists_of pages taken)))) ∷ [] else []))
      (ap (λ b. b && not (length (places (lists_of pages taken)) == free_field pages)) done.sound ∙ ap not unequal)
      in
      first_after _ (lists_of pages taken) _ last done.sound ∙ rw (is, done.count) refl
