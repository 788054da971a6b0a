-- One part more.
use Rattle.std.proofs.Common.{◌≡◌, ℕ, zero, suc, ◌+◌, ◌*◌, ◌^◌, ◌<◌, ◌≤◌, drop, slice_index_or, Bool, true, false, List, [], ◌∷◌, ◌++◌, ◌&&◌, ◌==◌, map, length, if◌then◌else◌, arith, refl, ap, sym, subst, ◌∙◌}
use Rattle.std.specs.List.{Contains, list_all}
use Rattle.std.proofs.lemmas.Bool.{eq-eqb}
use Rattle.std.proofs.lemmas.List.Sums.{sum_by-cons}
use Rattle.std.proofs.lemmas.List.Elements.{Contains-append_left, Contains-append_right}
use Rattle.db_format.specs.Pages.{Pages, Test, also}
use Rattle.db_format.specs.Seen.{marked, open_count}
use Rattle.btree_page.specs.declared.kind.Family.{Family}
use Rattle.btree_model.specs.Finding.{Finding, place, leaf, entry, key, fault, refused, places, entries, refusals, is_sound}
use Rattle.btree_model.specs.Parts.{all_places}
use Rattle.btree_model.specs.Records.{record_faults, tree_part}
use Rattle.btree_model.specs.Tree.{tree_walk}
use Rattle.btree_model.specs.Walk.{walk, visit, is_met}
use Rattle.btree_model.proofs.FindingLemmas.{also-append}
use Rattle.std.proofs.Math.Seq.{drop-cons}
use Rattle.btree_walk.proofs.ChainLemmas.{differ, sound_faults}
use Rattle.btree_walk.specs.Causes.{IsAmong}
use Rattle.btree_walk.specs.declared.error.WalkError.{WalkError}
use Rattle.btree_walk.specs.declared.error.WalkError.TheVariants.{Defect as Found, Source, OutOfMemory}
use Rattle.btree_walk.proofs.MarkLemmas.{keeps_also}
use Rattle.space_map.proofs.TrunkLemmas.{open_most}
use Rattle.schema_map.proofs.CursorFacts.{open_falls, first_falls}
use Rattle.schema_map.specs.Part.{IsSound}
use Rattle.schema_map.specs.Parts.{first_places, open_pages, AreSound, IsEarliest}
use Rattle.schema_map.specs.Schema.{tree_roots}
use Rattle.schema_map.specs.declared.schema.SchemaRow.{SchemaRow}

-- ---- marks

-- one page more was marked, and none lost its mark
open_strict : (old new : List Bool) (n : ℕ) → length new ≡ length old → ((m : ℕ) → marked old m ≡ true → marked new m ≡ true) → n < length old
    → marked old n ≡ false → marked new n ≡ true → 1 + open_count new ≤ open_count old
open_strict [] new n same kept less fresh shut = absurd (omega arith)
open_strict (b ∷ old) [] n same kept less fresh shut = absurd (omega arith)
open_strict (b ∷ old) (c ∷ new) zero same kept less fresh shut =
    let rest : open_count new ≤ open_count old = open_falls old new (omega arith) (λ m h. kept (suc m) h) in
    let e : open_count (c ∷ new) ≡ (if c then 0 else 1) + open_count new = sum_by-cons _ c new in
    let f : open_count (b ∷ old) ≡ (if b then 0 else 1) + open_count old = sum_by-cons _ b old in
    let is_shut : open_count (c ∷ new) ≡ 0 + open_count new = subst (λ (x : Bool). open_count (c ∷ new) ≡ (if x then 0 else 1) + open_count new) shut e in
    let is_open : open_count (b ∷ old) ≡ 1 + open_count old = subst (λ (x : Bool). open_count (b ∷ old) ≡ (if x then 0 else 1) + open_count old) fresh f in
    omega arith
open_strict (b ∷ old) (c ∷ new) (suc n) same kept less fresh shut =
    let rest : 1 + open_count new ≤ open_count old = open_strict old new n (omega arith) (λ m h. kept (suc m) h) (omega arith) fresh shut in
    let e : open_count (c ∷ new) ≡ (if c then 0 else 1) + open_count new = sum_by-cons _ c new in
    let f : open_count (b ∷ old) ≡ (if b then 0 else 1) + open_count old = sum_by-cons _ b old in
    let first : (if c then 0 else 1) ≤ (if b then 0 else 1) = first_falls b c (kept 0) in
    omega arith

pub pages_strict : (old new : List Bool) (n : ℕ) → length new ≡ length old → ((m : ℕ) → marked old m ≡ true → marked new m ≡ true) → 1 ≤ n → n < length old
    → marked old n ≡ false → marked new n ≡ true → 1 + open_pages new ≤ open_pages old
pages_strict [] new n same kept low less fresh shut = absurd (omega arith)
pages_strict (b ∷ old) [] n same kept low less fresh shut = absurd (omega arith)
pages_strict (b ∷ old) (c ∷ new) zero same kept low less fresh shut = absurd (omega arith)
pages_strict (b ∷ old) (c ∷ new) (suc n) same kept low less fresh shut = open_strict old new n (omega arith) (λ m h. kept (suc m) h) (omega arith) fresh shut

pub pages_most : (marks : List Bool) → 0 < length marks → open_pages marks + 1 ≤ length marks
pages_most [] some = absurd (omega arith)
pages_most (b ∷ marks) some = let most : open_count marks ≤ length marks = open_most marks in omega arith

-- ---- the root of a tree

root_met_by : (pages : Pages) (family : Family) (taken : Test) (root : ℕ) (b accepted : Bool) (rest : List Finding)
    → is_sound (place root ∷ visit pages family taken (walk pages family taken 19) [] root b accepted ++ rest) ≡ true → b ≡ false
root_met_by pages family taken root true accepted rest h = cc
root_met_by pages family taken root false accepted rest h = refl

-- the root of a tree without a defect has no earlier place, and it has one in the tree
pub root_unmet : (pages : Pages) (family : Family) (taken : Test) (root : ℕ) → is_sound (tree_part pages family taken root) ≡ true → taken root ≡ false
unfolding walk
root_unmet pages family taken root sound =
    root_met_by pages family taken root (is_met taken [] root) (pages.accepts root) (record_faults (entries (tree_walk pages family taken root))) sound

pub root_placed : (pages : Pages) (family : Family) (taken : Test) (root : ℕ) → also (places (tree_part pages family taken root)) taken root ≡ true
unfolding walk
root_placed pages family taken root = let is : (root == root) ≡ true = eq-eqb root root refl in rw is refl

sound_refusals : (xs : List Finding) → is_sound xs ≡ true → refusals xs ≡ []
sound_refusals [] h = refl
sound_refusals (key k ∷ xs) h = sound_refusals xs h
sound_refusals (place n ∷ xs) h = sound_refusals xs h
sound_refusals (leaf n ∷ xs) h = sound_refusals xs h
sound_refusals (entry r ∷ xs) h = sound_refusals xs h
sound_refusals (fault d ∷ xs) h = cc
sound_refusals (refused n ∷ xs) h = cc

-- ---- a part, and then others

module _ (part : List Finding) (parts : List (List Finding)) where
  pub sound_next : (old middle new : List Bool) (rows count more : ℕ) → IsSound part old middle rows → 1 + open_pages middle ≤ open_pages old → AreSound parts middle new count more
      → AreSound (part ∷ parts) old new (1 + count) (rows + more)
  sound_next old middle new rows count more one own rest =
      let here : rows + 2 ^ 21 * open_count middle ≤ 2 ^ 21 * open_count old = one.few in
      let there : more + 2 ^ 21 * open_count new ≤ 2 ^ 21 * open_count middle = rest.few in
      let others : count + open_pages new ≤ open_pages middle = rest.fewer in
      let all : count ≡ length parts = rest.counted in
      record {
        sound = ap (λ b. b && list_all is_sound parts) one.sound ∙ rest.sound;
        marks = rest.marks ∙ ap (also (all_places parts)) one.marks ∙ sym (also-append (places part) (all_places parts) (marked old));
        counted = omega arith;
        given =
            ap (λ a. a + more) one.count ∙ ap (λ b. length (entries part) + b) rest.given
            ∙ sym (sum_by-cons (λ x. x) (length (entries part)) (map (λ p. length (entries p)) parts));
        fewer = omega arith;
        few = omega arith;
      }

  module _ {R : Type 0} (refuses : Pages → ℕ → R → Type 0) (pages : Pages) where
    pub stop_next : (error : WalkError R) → is_sound part ≡ true → IsEarliest refuses pages parts error → IsEarliest refuses pages (part ∷ parts) error
    stop_next (Found d) sound h = rw sound h
    stop_next (Source r) sound h =
        record {
          page = h.page;
          range = h.range;
          placed = rw sound (Contains-append_right (places part) (first_places parts) h.page h.placed);
          refused = h.refused;
          listed = λ barred. rw sound (h.listed barred);
        }
    stop_next OutOfMemory sound h = tt

    -- a defect of the part itself
    stop_by : (error : WalkError R) (b : Bool) → is_sound part ≡ b → IsAmong refuses pages part error → IsEarliest refuses pages (part ∷ parts) error
    stop_by (Found d) true sound h =
        let none : Contains [] d = subst (λ l. Contains l d) (sound_faults part sound) h in
        let below : none.0 < 0 = none.1 in
        absurd (omega arith)
    stop_by (Found d) false sound h = rw sound h
    stop_by (Source r) true sound h =
        record {
          page = h.page;
          range = h.range;
          placed = Contains-append_left (places part) _ h.page h.placed;
          refused = h.refused;
          listed = λ barred.
              let none : Contains [] h.page = subst (λ l. Contains l h.page) (sound_refusals part sound) (h.listed barred) in
              let below : none.0 < 0 = none.1 in
              absurd (omega arith);
        }
    stop_by (Source r) false sound h =
        record {
          page = h.page;
          range = h.range;
          placed = Contains-append_left (places part) _ h.page h.placed;
          refused = h.refused;
          listed = λ barred. rw sound (h.listed barred);
        }
    stop_by OutOfMemory b sound h = tt

    pub stop_here : (error : WalkError R) → IsAmong refuses pages part error → IsEarliest refuses pages (part ∷ parts) error
    stop_here error h = stop_by error _ refl h

-- ---- some parts are done, and the rest is left

-- `count` parts with `rows` entries are done without a defect: what the rest comes to, all come to
pub record IsPassing {R : Type 0} (refuses : Pages → ℕ → R → Type 0) (pages : Pages) (all rest : List (List Finding)) (old seen : List Bool) (count rows : ℕ) : Type 0 where
  pub found : (new : List Bool) (n m : ℕ) → AreSound rest seen new n m → AreSound all old new (count + n) (rows + m)
  pub stop : (error : WalkError R) → IsEarliest refuses pages rest error → IsEarliest refuses pages all error
  pub fewer : count + open_pages seen ≤ open_pages old
  pub few : rows + 2 ^ 21 * open_count seen ≤ 2 ^ 21 * open_count old

module _ {R : Type 0} (refuses : Pages → ℕ → R → Type 0) (pages : Pages) where
  -- one part more
  pub passing_on : (all : List (List Finding)) (part : List Finding) (rest : List (List Finding)) (old seen later : List Bool) (count rows more : ℕ)
      → IsPassing refuses pages all (part ∷ rest) old seen count rows → IsSound part seen later more → 1 + open_pages later ≤ open_pages seen
      → IsPassing refuses pages all rest old later (count + 1) (rows + more)
  passing_on all part rest old seen later count rows more at one own =
      let before : count + open_pages seen ≤ open_pages old = at.fewer in
      let entries_before : rows + 2 ^ 21 * open_count seen ≤ 2 ^ 21 * open_count old = at.few in
      let here : more + 2 ^ 21 * open_count later ≤ 2 ^ 21 * open_count seen = one.few in
      record {
        found = λ new n m h.
            let e : count + 1 + n ≡ count + (1 + n) = omega arith in
            let f : rows + more + m ≡ rows + (more + m) = omega arith in
            rw (e, f) (at.found new (1 + n) (more + m) (sound_next part rest seen later new more n m one own h));
        stop = λ error h. at.stop error (stop_next part rest refuses pages error one.sound h);
        fewer = omega arith;
        few = omega arith;
      }

  pub passing_done : (all : List (List Finding)) (old seen : List Bool) (count rows : ℕ) → IsPassing refuses pages all [] old seen count rows → AreSound all old seen count rows
  passing_done all old seen count rows at =
      let e : count + 0 ≡ count = omega arith in
      let f : rows + 0 ≡ rows = omega arith in
      subst (λ n. AreSound all old seen n rows) e
      (subst (λ m. AreSound all old seen (count + 0) m) f
      (at.found seen 0 0 (record { sound = refl; marks = refl; counted = refl; given = refl; fewer = omega arith; few = omega arith })))

-- ---- the rows of the schema

pub roots_next : (rows : List SchemaRow) (i : ℕ) (row : SchemaRow) → i < length rows → row ≡ slice_index_or rows i row → (row.root ≡ 0 → ⊥)
    → tree_roots (drop i rows) ≡ row.root ∷ tree_roots (drop (i + 1) rows)
roots_next rows i row less is some =
    let e : suc i ≡ i + 1 = omega arith in
    let split : drop i rows ≡ row ∷ drop (i + 1) rows = drop-cons rows i row less ∙ ap (λ r. r ∷ drop (suc i) rows) (sym is) ∙ ap (λ k. row ∷ drop k rows) e in
    let named : (row.root == 0) ≡ false = differ row.root 0 some in
    ap tree_roots split ∙ ap (λ (b : Bool). (if b then [] else row.root ∷ []) ++ tree_roots (drop (i + 1) rows)) named

-- a tree without a defect marks its root
pub own_page : (pages : Pages) (family : Family) (root : ℕ) (old new : List Bool) (rows : ℕ) → IsSound (tree_part pages family (marked old) root) old new rows
    → 1 ≤ root → root < length old → length new ≡ length old → 1 + open_pages new ≤ open_pages old
own_page pages family root old new rows is low high same =
    pages_strict old new root same (keeps_also (places (tree_part pages family (marked old) root)) (marked old) (marked new) is.marks) low high
    (root_unmet pages family (marked old) root is.sound)
    (ap (λ t. t root) is.marks ∙ root_placed pages family (marked old) root)
