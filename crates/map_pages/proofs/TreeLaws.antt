-- The schema and the trees of the settled pages are the old ones.
use Rattle.std.proofs.Common.{◌≡◌, ℕ, ℤ, pos, negsuc, Bool, true, false, not, ◌||◌, ◌==◌, if◌then◌else◌, List, [], ◌∷◌, ◌++◌, Option, Some, None, Result, Ok, Err, map, refl, sym, ◌∙◌, ap, subst}
use Rattle.std.specs.List.{list_all, list_any}
use Rattle.std.proofs.Math.Path.{fun_ext}
use Rattle.std.proofs.lemmas.Bool.{eqb-true}
use Rattle.std.proofs.lemmas.List.Folds.{list_any-append}
use Rattle.btree_page.specs.Page.{Node, read_node}
use Rattle.btree_page.specs.Step.{steps}
use Rattle.btree_page.specs.declared.kind.Family.{Family}
use Rattle.btree_page.specs.declared.kind.Family.TheVariants.{Table}
use Rattle.btree_page.specs.declared.page.PageFault.{PageFault}
use Rattle.db_format.specs.Pages.{Pages, Test, also, nothing}
use Rattle.db_format.specs.Record.{columns}
use Rattle.db_format.specs.Value.{Datum}
use Rattle.db_format.specs.declared.defect.Defect.TheVariants.{RootFault}
use Rattle.btree_model.specs.Content.{SchemaItem, content, entry_of, item_of, item_with, kept_fields, with_tree, without_fourth}
use Rattle.btree_model.specs.Finding.{Finding, Row, entries, entry, fault, is_sound, key, leaf, place, places, refused}
use Rattle.btree_model.specs.Freelist.{freelist_walk}
use Rattle.btree_model.specs.Parts.{all_places, parts, trees_from, trees_of}
use Rattle.btree_model.specs.Range.{is_in_range}
use Rattle.btree_model.specs.Records.{record_faults, tree_part}
use Rattle.btree_model.specs.Rest.{AreUnmarked}
use Rattle.btree_model.specs.Schema.{Root, at_page, no_column, no_tree, numbers_of, root_fault, root_of, roots, roots_of_row, rowid_or_0, schema_fault, schema_faults, schema_part}
use Rattle.btree_model.specs.Tree.{max_path, root_family, tree_walk}
use Rattle.btree_model.specs.Walk.{inside, is_met, steps_of, visit, walk}
use Rattle.btree_model.proofs.AcceptedLemmas.{are_accepted, walk_accepted}
use Rattle.btree_model.proofs.FindingLemmas.{places-append}
use Rattle.btree_model.proofs.KeptLemmas.{AreSame, steps_kept, walk_kept}
use Rattle.btree_model.proofs.LeafLemmas.{is_in}
use Rattle.btree_model.proofs.ProperLemmas.{are_proper, is_proper, walk_proper}
use Rattle.btree_model.proofs.UnmarkedLemmas.{and_left, and_right, both, or_left, or_right, sound_left, unmarked_left, walk_stays}
use Rattle.schema_map.proofs.FewerMarks.{alone_as_after}
use Rattle.schema_map.proofs.SoundParts.{all_sound, rows_are, schema_sound}
use Rattle.schema_map.proofs.TreesLemmas.{root_unmet}
use Rattle.schema_map.specs.Alone.{schema_rows}
use Rattle.map_pages.specs.Maps.{is_map, maps_of}
use Rattle.map_pages.specs.Settled.{AreSettled, CanBeSettled}
use Rattle.map_pages.specs.Trunks.{findings_from}
use Rattle.map_pages.proofs.FreeLaws.{free_is, range_same}
use Rattle.map_pages.proofs.Freed.{maps_are, places_from}

-- ---- a page that was met has no place behind

or_one : (a b : Bool) → a ≡ true → (a || b) ≡ true
or_one true b is = refl
or_one false b is = cc

or_both : (a b : Bool) → a ≡ false → b ≡ false → (a || b) ≡ false
or_both true b p q = p
or_both false b p q = q

still_met : (taken : Test) (met more : List Finding) (k : ℕ) → is_met taken met k ≡ true → is_met taken (met ++ more) k ≡ true
still_met taken met more k is =
    ap (λ (b : Bool). b || taken k) (ap (λ (l : List ℕ). is_in l k) (places-append met more) ∙ list_any-append (λ m. m == k) (places met) (places more))
    ∙ by (is_in (places met) k) (is_in (places more) k) (taken k) is
  where
    by : (a b c : Bool) → (a || c) ≡ true → ((a || b) || c) ≡ true
    by true b c is = refl
    by false true c is = refl
    by false false c is = is

not_true : (b : Bool) → not b ≡ true → b ≡ false
not_true true is = cc
not_true false is = refl

differ : (taken : Test) (met : List Finding) (n k : ℕ) → not (is_met taken met n) ≡ true → is_met taken met k ≡ true → (n == k) ≡ false
differ taken met n k fresh was = by (n == k) refl
  where
    by : (b : Bool) → (n == k) ≡ b → b ≡ false
    by true is =
        let one : is_met taken met n ≡ true = ap (λ (m : ℕ). is_met taken met m) (eqb-true n k is) ∙ was in
        let none : is_met taken met n ≡ false = not_true _ fresh in cc
    by false is = refl

pub met_no_more : (taken : Test) (met xs : List Finding) (k : ℕ) → are_proper taken met xs ≡ true → is_met taken met k ≡ true → is_in (places xs) k ≡ false
met_no_more taken met [] k proper was = refl
met_no_more taken met (place n ∷ xs) k proper was =
    or_both _ _ (differ taken met n k (and_left (is_proper taken met (place n)) _ proper) was)
    (met_no_more taken (met ++ place n ∷ []) xs k (and_right (is_proper taken met (place n)) _ proper) (still_met taken met (place n ∷ []) k was))
met_no_more taken met (leaf n ∷ xs) k proper was =
    or_both _ _ (differ taken met n k (and_left (is_proper taken met (leaf n)) _ proper) was)
    (met_no_more taken (met ++ leaf n ∷ []) xs k (and_right (is_proper taken met (leaf n)) _ proper) (still_met taken met (leaf n ∷ []) k was))
met_no_more taken met (entry row ∷ xs) k proper was =
    met_no_more taken (met ++ entry row ∷ []) xs k (and_right (is_proper taken met (entry row)) _ proper) (still_met taken met (entry row ∷ []) k was)
met_no_more taken met (key x ∷ xs) k proper was =
    met_no_more taken (met ++ key x ∷ []) xs k (and_right (is_proper taken met (key x)) _ proper) (still_met taken met (key x ∷ []) k was)
met_no_more taken met (fault d ∷ xs) k proper was =
    met_no_more taken (met ++ fault d ∷ []) xs k (and_right (is_proper taken met (fault d)) _ proper) (still_met taken met (fault d ∷ []) k was)
met_no_more taken met (refused n ∷ xs) k proper was =
    met_no_more taken (met ++ refused n ∷ []) xs k (and_right (is_proper taken met (refused n)) _ proper) (still_met taken met (refused n ∷ []) k was)

-- a root is a place of its tree
root_apart : (pages : Pages) (extra taken : Test) (family : Family) (root : ℕ) → AreUnmarked extra (places (tree_walk pages family taken root)) → extra root ≡ false
unfolding walk
root_apart pages extra taken family root unmet = or_left (extra root) _ unmet

or_three : (e b a : Bool) → (e || (b || a)) ≡ (b || (e || a))
or_three true true a = refl
or_three true false a = refl
or_three false true a = refl
or_three false false a = refl

-- more pages of earlier parts, before or behind others
also_both : (extra taken : Test) (ns : List ℕ) → also ns (both extra taken) ≡ both extra (also ns taken)
also_both extra taken ns = fun_ext (λ n. sym (or_three (extra n) (is_in ns n) (taken n)))

or_apart : (a b : Bool) → ((a || b) || false) ≡ (a || (b || false))
or_apart true b = refl
or_apart false b = refl

module _ (old new : Pages) (can : CanBeSettled old) (all : AreSettled old new) where
  abbrev extra : Test
  extra = is_map old

  range_kept : (n : ℕ) → is_in_range old n ≡ true → is_in_range new n ≡ true
  range_kept n is = range_same old new can all n ∙ is

  -- ---- a tree

  -- pages of a tree other than page 1 are the same
  same_at : (found : List Finding) → are_accepted false old.accepts found ≡ true → AreUnmarked extra (places found) → is_in (places found) 1 ≡ false
      → AreSame old new (places found)
  same_at [] accepted unmet other = tt
  same_at (place n ∷ xs) accepted unmet other =
      let none : extra n ≡ false = or_left (extra n) _ unmet in (
        record {
          bytes = all.page n (or_left (n == 1) _ other) none;
          accepted = all.accepted n none ∙ and_left (old.accepts n) _ accepted;
        },
        same_at xs (and_right (old.accepts n) _ accepted) (or_right (extra n) _ unmet) (or_right (n == 1) _ other),
      )
  same_at (leaf n ∷ xs) accepted unmet other = cc
  same_at (entry row ∷ xs) accepted unmet other = same_at xs accepted unmet other
  same_at (key k ∷ xs) accepted unmet other = same_at xs accepted unmet other
  same_at (fault d ∷ xs) accepted unmet other = same_at xs accepted unmet other
  same_at (refused n ∷ xs) accepted unmet other = same_at xs accepted unmet other

  tree_kept : (taken : Test) (family : Family) (root : ℕ) → is_sound (tree_walk old family taken root) ≡ true
      → AreUnmarked extra (places (tree_walk old family taken root)) → is_in (places (tree_walk old family taken root)) 1 ≡ false
      → tree_walk new family taken root ≡ tree_walk old family taken root
  tree_kept taken family root sound unmet other =
      walk_kept old new all.usable range_kept family taken max_path [] root sound
      (same_at (tree_walk old family taken root) (walk_accepted false old taken family max_path [] root sound) unmet other)

  -- the tree with root 1: that page is the same page of a tree
  module _ (taken : Test) (family : Family) where
    abbrev TheSame : List Finding → List Finding → Type 0
    TheSame found again = is_sound found ≡ true → are_accepted false old.accepts found ≡ true → AreUnmarked extra (places found) → is_in (places found) 1 ≡ false → again ≡ found

    inside_same : (reading : Result Node PageFault)
        → TheSame (inside old taken (walk old family taken 19) [] 1 reading) (inside new taken (walk new family taken 19) [] 1 reading)
    inside_same (Err why) sound accepted unmet other = refl
    inside_same (Ok node) sound accepted unmet other =
        steps_kept old new all.usable range_kept taken (walk old family taken 19) (walk new family taken 19) (walk_kept old new all.usable range_kept family taken 19)
        (steps node.cells node.right) (place 1 ∷ []) 1 sound
        (same_at (steps_of old taken (walk old family taken 19) (place 1 ∷ []) 1 (steps node.cells node.right)) accepted unmet other)

    visit_same : (m a : Bool) → TheSame (visit old family taken (walk old family taken 19) [] 1 m a) (visit new family taken (walk new family taken 19) [] 1 m a)
    visit_same true a sound accepted unmet other = refl
    visit_same false false sound accepted unmet other = refl
    visit_same false true sound accepted unmet other =
        ap (inside new taken (walk new family taken 19) [] 1) (all.node family) ∙ inside_same (read_node family 1 (old.page 1)) sound accepted unmet other

    first_kept : extra 1 ≡ false → is_sound (tree_walk old family taken 1) ≡ true → AreUnmarked extra (places (tree_walk old family taken 1))
        → tree_walk new family taken 1 ≡ tree_walk old family taken 1
    unfolding walk
    first_kept none sound unmet =
        let rest = visit old family taken (walk old family taken 19) [] 1 (is_met taken [] 1) (old.accepts 1) in
        ap (λ (a : Bool). place 1 ∷ visit new family taken (walk new family taken 19) [] 1 (is_met taken [] 1) a) (all.accepted 1 none)
        ∙ ap (λ (l : List Finding). place 1 ∷ l)
        (visit_same (is_met taken [] 1) (old.accepts 1) sound (and_right (old.accepts 1) _ (walk_accepted false old taken family 20 [] 1 sound)) (or_right (extra 1) _ unmet)
        (met_no_more taken (place 1 ∷ []) rest 1 (and_right (is_proper taken [] (place 1)) _ (walk_proper old taken family 20 [] 1 sound)) refl))

  -- page 1 is no map page
  first_apart : extra 1 ≡ false
  first_apart = refl

  -- ---- with the map pages among the earlier places

  stays_new : (taken : Test) (family : Family) (root : ℕ) → tree_walk new family taken root ≡ tree_walk old family taken root
      → is_sound (tree_walk old family taken root) ≡ true → AreUnmarked extra (places (tree_walk old family taken root))
      → tree_walk new family (both extra taken) root ≡ tree_walk old family taken root
  stays_new taken family root same sound unmet =
      walk_stays new extra taken family max_path [] root (ap is_sound same ∙ sound)
      (subst (λ (l : List Finding). AreUnmarked extra (places l)) (sym same) unmet) ∙ same

  part_new : (taken : Test) (family : Family) (root : ℕ) → tree_walk new family (both extra taken) root ≡ tree_walk old family taken root
      → tree_part new family (both extra taken) root ≡ tree_part old family taken root
  part_new taken family root same = ap (λ (found : List Finding). found ++ record_faults (entries found)) same

  -- ---- the schema

  root_fault_same : (rowid : ℤ) (root : Root) → root_fault new rowid root ≡ root_fault old rowid root
  root_fault_same rowid no_column = refl
  root_fault_same rowid no_tree = refl
  root_fault_same rowid (at_page (pos n)) = ap (λ (b : Bool). if b then [] else fault (RootFault rowid) ∷ []) (range_same old new can all n)
  root_fault_same rowid (at_page (negsuc n)) = refl

  schema_fault_same : (rowid : ℤ) (values : Option (List Datum)) → schema_fault new rowid values ≡ schema_fault old rowid values
  schema_fault_same rowid None = refl
  schema_fault_same rowid (Some values) = root_fault_same rowid (root_of values)

  schema_faults_same : (rows : List Row) → schema_faults new rows ≡ schema_faults old rows
  schema_faults_same [] = refl
  schema_faults_same (row ∷ rows) =
      ap (λ (l : List Finding). l ++ schema_faults new rows) (schema_fault_same (rowid_or_0 row.rowid) (columns row.payload))
      ∙ ap (λ (l : List Finding). schema_fault old (rowid_or_0 row.rowid) (columns row.payload) ++ l) (schema_faults_same rows)

  schema_new : (taken : Test) → is_sound (schema_part old taken) ≡ true → AreUnmarked extra (places (schema_part old taken))
      → schema_part new (both extra taken) ≡ schema_part old taken
  schema_new taken sound unmet =
      let part : List Finding = tree_part old Table taken 1 in
      let found : List Finding = tree_walk old Table taken 1 in
      let part_sound : is_sound part ≡ true = sound_left part (schema_faults old (entries part)) sound in
      let part_unmet : AreUnmarked extra (places part) = unmarked_left extra part (schema_faults old (entries part)) unmet in
      let found_sound : is_sound found ≡ true = sound_left found (record_faults (entries found)) part_sound in
      let found_unmet : AreUnmarked extra (places found) = unmarked_left extra found (record_faults (entries found)) part_unmet in
      let same = stays_new taken Table 1 (first_kept taken Table first_apart found_sound found_unmet) found_sound found_unmet in
      ap (λ (l : List Finding). l ++ schema_faults new (entries l)) (part_new taken Table 1 same)
      ∙ ap (λ (l : List Finding). part ++ l) (schema_faults_same (entries part))

  -- ---- the trees

  other_root : (taken : Test) (root : ℕ) → taken 1 ≡ true → taken root ≡ false → (root == 1) ≡ false
  other_root taken root first fresh = by (root == 1) refl
    where
      by : (b : Bool) → (root == 1) ≡ b → b ≡ false
      by true is = let one : taken root ≡ true = ap taken (eqb-true root 1 is) ∙ first in cc
      by false is = refl

  -- a tree behind the schema, whose root page is the same
  module _ (taken : Test) (root : ℕ) (first : taken 1 ≡ true) (sound : is_sound (tree_part old (root_family root (old.page root)) taken root) ≡ true)
      (unmet : AreUnmarked extra (places (tree_part old (root_family root (old.page root)) taken root))) where
    abbrev family : Family
    family = root_family root (old.page root)

    abbrev found : List Finding
    found = tree_walk old family taken root

    found_sound : is_sound found ≡ true
    found_sound = sound_left found (record_faults (entries found)) sound

    found_unmet : AreUnmarked extra (places found)
    found_unmet = unmarked_left extra found (record_faults (entries found)) unmet

    no_first : is_in (places found) 1 ≡ false
    no_first = met_no_more taken [] found 1 (walk_proper old taken family max_path [] root found_sound) first

    root_same : new.page root ≡ old.page root
    root_same =
        all.page root (other_root taken root first (root_unmet old family taken root sound)) (root_apart old extra taken family root found_unmet)

    family_same : root_family root (new.page root) ≡ family
    family_same = ap (root_family root) root_same

    rooted_new : tree_part new (root_family root (new.page root)) (both extra taken) root ≡ tree_part old family taken root
    rooted_new =
        ap (λ (f : Family). tree_part new f (both extra taken) root) family_same
        ∙ part_new taken family root (stays_new taken family root (tree_kept taken family root found_sound found_unmet no_first) found_sound found_unmet)

    -- it is the same read by itself
    alone : tree_walk old family taken root ≡ tree_walk old family nothing root
    alone = alone_as_after old family root taken found_sound

    alone_same : tree_walk new family nothing root ≡ tree_walk old family nothing root
    alone_same =
        tree_kept nothing family root (ap is_sound (sym alone) ∙ found_sound)
        (subst (λ (l : List Finding). AreUnmarked extra (places l)) alone found_unmet)
        (ap (λ (l : List Finding). is_in (places l) 1) (sym alone) ∙ no_first)

  trees_new : (taken : Test) (numbers : List ℕ) → taken 1 ≡ true → list_all is_sound (trees_from old taken numbers) ≡ true
      → AreUnmarked extra (all_places (trees_from old taken numbers)) → trees_from new (both extra taken) numbers ≡ trees_from old taken numbers
  trees_new taken [] first sound unmet = refl
  trees_new taken (root ∷ rest) first sound unmet =
      let part : List Finding = tree_part old (root_family root (old.page root)) taken root in
      let later : List (List Finding) = trees_from old (also (places part) taken) rest in
      let apart : (list_any extra (places part) || list_any extra (all_places later)) ≡ false = sym (list_any-append extra (places part) (all_places later)) ∙ unmet in
      let here = rooted_new taken root first (and_left (is_sound part) (list_all is_sound later) sound) (or_left _ _ apart) in
      ap (λ (l : List Finding). l ∷ trees_from new (also (places l) (both extra taken)) rest) here
      ∙ ap (λ (t : Test). part ∷ trees_from new t rest) (also_both extra taken (places part))
      ∙ ap (λ (l : List (List Finding)). part ∷ l)
      (trees_new (also (places part) taken) rest (by (is_in (places part) 1) first) (and_right (is_sound part) (list_all is_sound later) sound) (or_right _ _ apart))
    where
      by : (b : Bool) → taken 1 ≡ true → (b || taken 1) ≡ true
      by true is = refl
      by false is = is

  -- ---- all parts

  abbrev free : List Finding
  free = freelist_walk old nothing

  abbrev taken_old : Test
  taken_old = also (places free) nothing

  abbrev schema : List Finding
  schema = schema_part old taken_old

  taken_new : also (places (freelist_walk new nothing)) nothing ≡ both extra taken_old
  taken_new =
      ap (λ (l : List Finding). also (places l) nothing) (free_is old new can all)
      ∙ fun_ext (λ n.
      ap (λ (b : Bool). b || false)
      (ap (λ (l : List ℕ). is_in l n) (places-append (findings_from old.usable 0 (maps_of old)) free)
      ∙ list_any-append (λ m. m == n) (places (findings_from old.usable 0 (maps_of old))) (places free)
      ∙ ap (λ (b : Bool). b || is_in (places free) n) (ap (λ (l : List ℕ). is_in l n) (places_from old.usable 0 (maps_of old)) ∙ maps_are old n))
      ∙ or_apart (extra n) (is_in (places free) n))

  rest_unmet : (list_any extra (places schema) || list_any extra (all_places (trees_of old taken_old schema))) ≡ false
  rest_unmet =
      sym (list_any-append extra (places schema) (all_places (trees_of old taken_old schema)))
      ∙ or_right _ _ (sym (list_any-append extra (places free) (places schema ++ all_places (trees_of old taken_old schema))) ∙ can.unmet)

  schema_same : schema_part new (also (places (freelist_walk new nothing)) nothing) ≡ schema
  schema_same = ap (schema_part new) taken_new ∙ schema_new taken_old (schema_sound old can.sound) (or_left _ _ rest_unmet)

  -- page 1 is a place of the schema
  first_met : also (places schema) taken_old 1 ≡ true
  unfolding walk
  first_met = refl

  trees_are : trees_of old taken_old schema ≡ trees_from old (also (places schema) taken_old) (roots (entries schema))
  trees_are = ap (λ (b : Bool). if b then trees_from old (also (places schema) taken_old) (roots (entries schema)) else []) (schema_sound old can.sound)

  trees_unmet : AreUnmarked extra (all_places (trees_from old (also (places schema) taken_old) (roots (entries schema))))
  trees_unmet = subst (λ (l : List (List Finding)). AreUnmarked extra (all_places l)) trees_are (or_right _ _ rest_unmet)

  trees_same : trees_of new (both extra taken_old) schema ≡ trees_of old taken_old schema
  trees_same =
      ap (λ (b : Bool). if b then trees_from new (also (places schema) (both extra taken_old)) (roots (entries schema)) else []) (schema_sound old can.sound)
      ∙ ap (λ (t : Test). trees_from new t (roots (entries schema))) (also_both extra taken_old (places schema))
      ∙ trees_new (also (places schema) taken_old) (roots (entries schema)) first_met (all_sound old can.sound) trees_unmet
      ∙ sym trees_are

  pub parts_new : parts new ≡ freelist_walk new nothing ∷ (schema ∷ trees_of old taken_old schema)
  parts_new =
      let now : List Finding = freelist_walk new nothing in
      ap (λ (l : List Finding). now ∷ (l ∷ trees_of new (also (places now) nothing) l)) schema_same
      ∙ ap (λ (t : Test). now ∷ (schema ∷ trees_of new t schema)) taken_new
      ∙ ap (λ (l : List (List Finding)). now ∷ (schema ∷ l)) trees_same

  -- ---- what is held

  -- each of these trees is the same, read by itself
  AreKept : List ℕ → Type 0
  AreKept [] = Unit {0}
  AreKept (n ∷ ns) =
      ((root_family n (new.page n) ≡ root_family n (old.page n))
      × (tree_walk new (root_family n (old.page n)) nothing n ≡ tree_walk old (root_family n (old.page n)) nothing n)) × AreKept ns

  kept_left : (xs ys : List ℕ) → AreKept (xs ++ ys) → AreKept xs
  unfolding AreKept
  kept_left [] ys kept = tt
  kept_left (x ∷ xs) ys kept = (kept.0, kept_left xs ys kept.1)

  kept_right : (xs ys : List ℕ) → AreKept (xs ++ ys) → AreKept ys
  unfolding AreKept
  kept_right [] ys kept = kept
  kept_right (x ∷ xs) ys kept = kept_right xs ys kept.1

  all_kept : (taken : Test) (numbers : List ℕ) → taken 1 ≡ true → list_all is_sound (trees_from old taken numbers) ≡ true
      → AreUnmarked extra (all_places (trees_from old taken numbers)) → AreKept numbers
  unfolding AreKept
  all_kept taken [] first sound unmet = tt
  all_kept taken (root ∷ rest) first sound unmet =
      let part : List Finding = tree_part old (root_family root (old.page root)) taken root in
      let later : List (List Finding) = trees_from old (also (places part) taken) rest in
      let apart : (list_any extra (places part) || list_any extra (all_places later)) ≡ false = sym (list_any-append extra (places part) (all_places later)) ∙ unmet in
      let here : is_sound part ≡ true = and_left (is_sound part) (list_all is_sound later) sound in (
        (family_same taken root first here (or_left _ _ apart), alone_same taken root first here (or_left _ _ apart)),
        all_kept (also (places part) taken) rest (by (is_in (places part) 1) first) (and_right (is_sound part) (list_all is_sound later) sound) (or_right _ _ apart),
      )
    where
      by : (b : Bool) → taken 1 ≡ true → (b || taken 1) ≡ true
      by true is = refl
      by false is = is

  item_with_same : (rowid : ℤ) (payload : List ℕ) (values : List Datum) (root : Root) → AreKept (numbers_of root)
      → item_with new rowid payload values root ≡ item_with old rowid payload values root
  unfolding AreKept
  item_with_same rowid payload values no_column kept = refl
  item_with_same rowid payload values no_tree kept = refl
  item_with_same rowid payload values (at_page (negsuc n)) kept = refl
  item_with_same rowid payload values (at_page (pos root)) kept =
      ap (λ (family : Family). with_tree rowid (without_fourth values) family (map entry_of (entries (tree_walk new family nothing root)))) kept.0.0
      ∙ ap (λ (l : List Finding). with_tree rowid (without_fourth values) (root_family root (old.page root)) (map entry_of (entries l))) kept.0.1

  item_same : (row : Row) (values : Option (List Datum)) → AreKept (roots_of_row values) → item_of new row values ≡ item_of old row values
  item_same row None kept = refl
  item_same row (Some values) kept = item_with_same (rowid_or_0 row.rowid) row.payload values (root_of values) kept

  items_same : (rows : List Row) → AreKept (roots rows) → map (λ row. item_of new row (columns row.payload)) rows ≡ map (λ row. item_of old row (columns row.payload)) rows
  items_same [] kept = refl
  items_same (row ∷ rows) kept =
      ap (λ (item : SchemaItem). item ∷ map (λ row. item_of new row (columns row.payload)) rows)
      (item_same row (columns row.payload) (kept_left (roots_of_row (columns row.payload)) (roots rows) kept))
      ∙ ap (λ (items : List SchemaItem). item_of old row (columns row.payload) ∷ items)
      (items_same rows (kept_right (roots_of_row (columns row.payload)) (roots rows) kept))

  -- the schema read by itself
  schema_walk_same : tree_walk new Table nothing 1 ≡ tree_walk old Table nothing 1
  schema_walk_same =
      let part : List Finding = tree_part old Table taken_old 1 in
      let found : List Finding = tree_walk old Table taken_old 1 in
      let part_sound : is_sound part ≡ true = sound_left part (schema_faults old (entries part)) (schema_sound old can.sound) in
      let part_unmet : AreUnmarked extra (places part) = unmarked_left extra part (schema_faults old (entries part)) (or_left _ _ rest_unmet) in
      let found_sound : is_sound found ≡ true = sound_left found (record_faults (entries found)) part_sound in
      let found_unmet : AreUnmarked extra (places found) = unmarked_left extra found (record_faults (entries found)) part_unmet in
      let alone = alone_as_after old Table 1 taken_old found_sound in
      first_kept nothing Table first_apart (ap is_sound (sym alone) ∙ found_sound) (subst (λ (l : List Finding). AreUnmarked extra (places l)) alone found_unmet)

  rows_kept : AreKept (roots (schema_rows old))
  rows_kept =
      subst (λ (rows : List Row). AreKept (roots rows)) (rows_are old can.sound)
      (all_kept (also (places schema) taken_old) (roots (entries schema)) first_met (all_sound old can.sound) trees_unmet)

  pub content_same : content new ≡ content old
  content_same =
      ap (λ (kept : List ℕ). record { kept = kept; rows = map (λ row. item_of new row (columns row.payload)) (entries (tree_walk new Table nothing 1)) }) all.kept
      ∙ ap (λ (l : List Finding). record { kept = kept_fields (old.page 1); rows = map (λ row. item_of new row (columns row.payload)) (entries l) }) schema_walk_same
      ∙ ap (λ (items : List SchemaItem). record { kept = kept_fields (old.page 1); rows = items }) (items_same (schema_rows old) rows_kept)
