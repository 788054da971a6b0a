-- A database without a defect: page 1 is no leaf of the freelist, and where no page is unused each page in use is accepted.
use Rattle.std.proofs.Common.{◌≡◌, ℕ, zero, suc, ◌+◌, ◌-◌, ◌<◌, not, Bool, true, false, [], ◌∷◌, if◌then◌else◌, refl, ap, sym, subst, ◌∙◌, arith}
use Rattle.std.specs.Prelude.{count_by}
use Rattle.std.specs.List.{list_all, range_with_len}
use Rattle.std.proofs.Math.Bool.{or-false}
use Rattle.std.proofs.Math.Path.{fun_ext}
use Rattle.std.proofs.lemmas.List.Sums.{sum_by-cons}
use Rattle.btree_model.specs.Finding.{entries, fault, is_sound, leaves, place, places}
use Rattle.btree_model.specs.Freelist.{freelist_walk}
use Rattle.btree_model.specs.Parts.{all_places, is_database, parts, trees_of}
use Rattle.btree_model.specs.Plain.{is_leaf}
use Rattle.btree_model.specs.Records.{tree_part}
use Rattle.btree_model.specs.Schema.{schema_faults, schema_part}
use Rattle.btree_model.specs.Walk.{walk}
use Rattle.btree_model.proofs.AcceptedLemmas.{used_accepted}
use Rattle.btree_model.proofs.LeafLemmas.{is_in, no_leaf}
use Rattle.btree_model.proofs.PlainLemmas.{leaf_is}
use Rattle.btree_model.proofs.UnmarkedLemmas.{and_left, and_right, or_left, sound_left}
use Rattle.btree_page.specs.declared.kind.Family.{Family}
use Rattle.btree_page.specs.declared.kind.Family.TheVariants.{Table}
use Rattle.db_format.specs.Pages.{Pages, Test, also, nothing}
use Rattle.db_format.specs.Seen.{marked}
use Rattle.db_format.specs.declared.defect.Defect.TheVariants.{PageTwice}
use Rattle.pager.proofs.BatchLemmas.{number_in}
use Rattle.schema_map.specs.Census.{IsWhole}
use Rattle.schema_map.specs.declared.counts.Census.{Census}
use Rattle.rekey_job.specs.Stops.{AreClean}

-- ---- page 1

-- a root with a place in an earlier part is met twice
root_twice : (pages : Pages) (taken : Test) (family : Family) (root : ℕ) → taken root ≡ true
    → tree_part pages family taken root ≡ place root ∷ (fault (PageTwice root) ∷ [])
unfolding walk
root_twice pages taken family root is = rw is refl

fresh : (pages : Pages) (taken : Test) (family : Family) (root : ℕ) (met : Bool) → taken root ≡ met → is_sound (tree_part pages family taken root) ≡ true → taken root ≡ false
fresh pages taken family root false is sound = is
fresh pages taken family root true is sound = let no : true ≡ false = sym sound ∙ ap is_sound (root_twice pages taken family root is) in cc

-- the schema begins there
pub first_used : (pages : Pages) → is_database pages ≡ true → is_leaf pages 1 ≡ false
first_used pages sound =
    let list = freelist_walk pages nothing in
    let taken : Test = also (places list) nothing in
    let schema = schema_part pages taken in
    let trees = trees_of pages taken schema in
    let table = tree_part pages Table taken 1 in
    let schema_sound : is_sound schema ≡ true = and_left (is_sound schema) (list_all is_sound trees) (and_right (is_sound list) (list_all is_sound (schema ∷ trees)) sound) in
    leaf_is pages 1 (and_left (is_sound list) (list_all is_sound (schema ∷ trees)) sound)
    ∙ no_leaf list 1 (or_left (is_in (places list) 1) false
    (fresh pages taken Table 1 (taken 1) refl (sound_left table (schema_faults pages (entries table)) schema_sound)))

-- ---- what a census found

-- its leaves are those of the freelist
pub leaves_are : (pages : Pages) (census : Census) → IsWhole pages census → marked census.leaves.leaves ≡ is_leaf pages
leaves_are pages census whole =
    let list = freelist_walk pages nothing in
    let sound : is_sound list ≡ true = and_left (is_sound list) _ whole.sound in
    whole.leafs ∙ fun_ext (λ n. or-false (is_in (leaves list) n) ∙ sym (leaf_is pages n sound))

by_first : (test : Test) (from n : ℕ) → ((i : ℕ) → i < n → count_by test (range_with_len (from + 1) n) ≡ 0 → test (from + 1 + i) ≡ false)
    → (met : Bool) → test from ≡ met → (if met then 1 else 0) + count_by test (range_with_len (from + 1) n) ≡ 0
    → (i : ℕ) → i < suc n → test (from + i) ≡ false
by_first test from n later true is none i within = absurd (omega (arith, none))
by_first test from n later false is none zero within = ap test (omega arith) ∙ is
by_first test from n later false is none (suc i) within = ap test (omega arith) ∙ later i (omega (arith, within)) (omega (arith, none))

-- none of a range meets a test
pub none_counted : (test : Test) (from n : ℕ) → count_by test (range_with_len from n) ≡ 0 → (i : ℕ) → i < n → test (from + i) ≡ false
none_counted test from zero none i within = absurd (omega (arith, within))
none_counted test from (suc n) none i within =
    by_first test from n (λ k lower rest. none_counted test (from + 1) n rest k lower) (test from) refl
    (sym (sum_by-cons (λ m. if test m then 1 else 0) from (range_with_len (from + 1) n)) ∙ none) i within

pub not_not : (a : Bool) → not a ≡ false → a ≡ true
not_not true h = refl
not_not false h = cc

-- where no page is unused, each was met
pub all_met : (pages : Pages) (census : Census) → IsWhole pages census → census.unused ≡ 0 → AreClean pages
all_met pages census whole none = record {
  sound = whole.sound;
  accepted = λ n range used.
      let within = number_in pages.count n range in
      let sound = and_left (is_sound (freelist_walk pages nothing)) _ whole.sound in
      let here : 1 + (n - 1) ≡ n = omega (arith, within.0) in
      let met = subst (λ m. not (is_in (all_places (parts pages)) m) ≡ false) here
      (none_counted (λ m. not (is_in (all_places (parts pages)) m)) 1 pages.count (sym whole.unused ∙ none) (n - 1) (omega (arith, within.0, within.1))) in
      used_accepted pages n whole.sound (not_not (is_in (all_places (parts pages)) n) met) (sym (leaf_is pages n sound) ∙ used);
}
