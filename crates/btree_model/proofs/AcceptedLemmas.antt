-- In a walk without a defect each place is accepted, but for the leaves of the freelist.
use Rattle.std.proofs.Common.{◌≡◌, ℕ, zero, suc, ℤ, pos, negsuc, Bool, true, false, List, [], ◌∷◌, ◌++◌, ◌&&◌, ◌||◌, ◌==◌, Option, Some, None, Result, Ok, Err, if◌then◌else◌, refl, ap, sym, ◌∙◌}
use Rattle.std.specs.Prelude.{int_lt, int_le, not, length}
use Rattle.std.specs.List.{list_any, list_all}
use Rattle.std.specs.Option.{option_map_or}
use Rattle.std.proofs.Math.Bool.{and_assoc}
use Rattle.std.proofs.lemmas.Bool.{eqb-true}
use Rattle.std.proofs.lemmas.List.Folds.{list_any-append}
use Rattle.btree_page.specs.declared.kind.Family.{Family}
use Rattle.btree_page.specs.declared.kind.Family.TheVariants.{Table}
use Rattle.db_format.specs.declared.defect.Defect.{Defect}
use Rattle.db_format.specs.declared.defect.Defect.TheVariants.{FreeCount, PageTwice, RootFault, RowidOrder, TrunkFault}
use Rattle.db_format.specs.Bytes.{u32_at}
use Rattle.db_format.specs.Pages.{Pages, Test, nothing, also}
use Rattle.db_format.specs.Value.{Datum}
use Rattle.db_format.specs.Record.{columns}
use Rattle.btree_page.specs.Cell.{StoredCell}
use Rattle.btree_page.specs.Page.{Node, read_node}
use Rattle.btree_page.specs.Step.{Step, child, divider, entry as cell, steps}
use Rattle.btree_page.specs.declared.page.PageFault.{PageFault}
use Rattle.btree_model.specs.Finding.{Finding, Row, place, leaf, entry, key, fault, refused, places, leaves, entries, keys, is_sound}
use Rattle.btree_model.specs.Freelist.{first_trunk, free_field, freelist_walk, leaf_numbers, leaves_of, lists_of, next_trunk, is_trunk, trunk_found, trunks, visit_trunk}
use Rattle.btree_model.specs.Parts.{all_places, is_database, parts, trees_from, trees_of}
use Rattle.btree_model.specs.Range.{is_in_range}
use Rattle.btree_model.specs.Records.{record_fault, record_faults, tree_part}
use Rattle.btree_model.specs.Schema.{Root, roots, root_fault, root_of, rowid_or_0, schema_fault, schema_faults, schema_part, no_column, no_tree, at_page}
use Rattle.btree_model.specs.Tree.{max_path, root_family, tree_walk}
use Rattle.btree_model.specs.Walk.{is_met, step, steps_of, walk, visit, inside, chain, link, chain_of, links_needed, late_faults, order_faults, too_deep, Below}
use Rattle.btree_model.proofs.UnmarkedLemmas.{and_left, and_right, or_left, or_right, sound_left, sound_right}
use Rattle.btree_model.proofs.LeafLemmas.{is_in}

one_of : {P : Type 0} (a b : Bool) → (a || b) ≡ true → (a ≡ true → P) → (b ≡ true → P) → P
one_of true b h first other = first refl
one_of false b h first other = other h

or_only : (a b : Bool) → a ≡ false → (a || b) ≡ true → b ≡ true
or_only true b kept h = cc
or_only false b kept h = h

-- each place is that of an accepted page; the first test says whether leaves of the freelist may be among them
abbrev pub are_accepted : Bool → Test → List Finding → Bool
are_accepted free accepts [] = true
are_accepted free accepts (place n ∷ rest) = accepts n && are_accepted free accepts rest
are_accepted free accepts (leaf n ∷ rest) = free && are_accepted free accepts rest
are_accepted free accepts (entry row ∷ rest) = are_accepted free accepts rest
are_accepted free accepts (key k ∷ rest) = are_accepted free accepts rest
are_accepted free accepts (fault d ∷ rest) = are_accepted free accepts rest
are_accepted free accepts (refused n ∷ rest) = are_accepted free accepts rest

module _ (free : Bool) (accepts : Test) where
  accepted-append : (xs ys : List Finding) → are_accepted free accepts (xs ++ ys) ≡ (are_accepted free accepts xs && are_accepted free accepts ys)
  accepted-append [] ys = refl
  accepted-append (place n ∷ xs) ys = ap (λ b. accepts n && b) (accepted-append xs ys) ∙ sym (and_assoc (accepts n) (are_accepted free accepts xs) (are_accepted free accepts ys))
  accepted-append (leaf n ∷ xs) ys = ap (λ b. free && b) (accepted-append xs ys) ∙ sym (and_assoc free (are_accepted free accepts xs) (are_accepted free accepts ys))
  accepted-append (entry r ∷ xs) ys = accepted-append xs ys
  accepted-append (key k ∷ xs) ys = accepted-append xs ys
  accepted-append (fault d ∷ xs) ys = accepted-append xs ys
  accepted-append (refused n ∷ xs) ys = accepted-append xs ys

  -- sound findings are accepted
  abbrev pub Accepted : List Finding → Type 0
  Accepted found = is_sound found ≡ true → are_accepted free accepts found ≡ true

  both_accepted : (xs ys : List Finding) → Accepted xs → Accepted ys → Accepted (xs ++ ys)
  both_accepted xs ys p q sound =
      accepted-append xs ys ∙ ap (λ b. b && are_accepted free accepts ys) (p (sound_left xs ys sound)) ∙ q (sound_right xs ys sound)

  if_accepted : (c : Bool) (one other : List Finding) → Accepted one → Accepted other → Accepted (if c then one else other)
  if_accepted true one other p q = p
  if_accepted false one other p q = q

  -- a defect that may be there has no place
  fault_accepted : (c : Bool) (d : Defect) → Accepted (if c then fault d ∷ [] else [])
  fault_accepted true d sound = refl
  fault_accepted false d sound = refl

  late_accepted : (k : ℤ) (rows : List Row) → Accepted (late_faults k rows)
  late_accepted k [] = λ sound. refl
  late_accepted k (row ∷ rows) =
      let late = option_map_or (λ rowid. int_lt k rowid) row.rowid false in
      both_accepted (if late then fault (RowidOrder row.page) ∷ [] else []) (late_faults k rows) (fault_accepted late (RowidOrder row.page)) (late_accepted k rows)

  order_accepted : (met : List Finding) (n : ℕ) (rowid : Option ℤ) → Accepted (order_faults met n rowid)
  order_accepted met n None = λ sound. refl
  order_accepted met n (Some rowid) = fault_accepted (list_any (λ k. int_le rowid k) (keys met)) (RowidOrder n)

-- ---- trees

module _ (free : Bool) (pages : Pages) (taken : Test) where
  link_accepted : (n : ℕ) (m accepted : Bool) (after : List Finding) → pages.accepts n ≡ accepted → Accepted free pages.accepts after
      → Accepted free pages.accepts (link n m accepted after)
  link_accepted n true accepted after is p sound = cc
  link_accepted n false false after is p sound = cc
  link_accepted n false true after is p sound = ap (λ b. b && are_accepted free pages.accepts after) is ∙ p sound

  chain_accepted : (met : List Finding) (more holder n : ℕ) → Accepted free pages.accepts (chain pages taken met more holder n)
  chain_accepted met zero holder n = if_accepted free pages.accepts (n == 0) _ _ (λ sound. refl) (λ sound. refl)
  chain_accepted met (suc more) holder n =
      if_accepted free pages.accepts (n == 0) _ _ (λ sound. refl)
      (if_accepted free pages.accepts (is_in_range pages n) _ _
      (link_accepted n (is_met taken met n) (pages.accepts n) _ refl (chain_accepted (met ++ place n ∷ []) more n (u32_at (pages.page n) 0)))
      (λ sound. refl))

  chain_of_accepted : (met : List Finding) (n : ℕ) (stored : StoredCell) → Accepted free pages.accepts (chain_of pages taken met n stored)
  chain_of_accepted met n stored =
      if_accepted free pages.accepts (links_needed pages.usable stored == 0) _ _ (λ sound. refl)
      (if_accepted free pages.accepts (stored.first == 0) _ _ (λ sound. refl) (chain_accepted met (links_needed pages.usable stored) n stored.first))

  module _ (below : Below) (lower : (met : List Finding) (c : ℕ) → Accepted free pages.accepts (below met c)) where
    step_accepted : (met : List Finding) (n : ℕ) (s : Step) → Accepted free pages.accepts (step pages taken below met n s)
    step_accepted met n (child c) = if_accepted free pages.accepts (is_in_range pages c) _ _ (lower met c) (λ sound. refl)
    step_accepted met n (divider k) = late_accepted free pages.accepts k (entries met)
    step_accepted met n (cell rowid stored) =
        both_accepted free pages.accepts (order_faults met n rowid) _ (order_accepted free pages.accepts met n rowid)
        (both_accepted free pages.accepts (chain_of pages taken met n stored) _ (chain_of_accepted met n stored)
        (if_accepted free pages.accepts (is_sound (chain_of pages taken met n stored)) _ _ (λ sound. refl) (λ sound. refl)))

    steps_accepted : (todo : List Step) (met : List Finding) (n : ℕ) → Accepted free pages.accepts (steps_of pages taken below met n todo)
    steps_accepted [] met n = λ sound. refl
    steps_accepted (s ∷ todo) met n =
        both_accepted free pages.accepts (step pages taken below met n s) _ (step_accepted met n s)
        (steps_accepted todo (met ++ step pages taken below met n s) n)

    inside_accepted : (met : List Finding) (n : ℕ) (reading : Result Node PageFault) → Accepted free pages.accepts (inside pages taken below met n reading)
    inside_accepted met n (Err why) = λ sound. refl
    inside_accepted met n (Ok page) = steps_accepted (steps page.cells page.right) (met ++ place n ∷ []) n

    visit_accepted : (family : Family) (met : List Finding) (n : ℕ) (m accepted : Bool) → pages.accepts n ≡ accepted
        → Accepted free pages.accepts (place n ∷ visit pages family taken below met n m accepted)
    visit_accepted family met n true accepted is sound = cc
    visit_accepted family met n false false is sound = cc
    visit_accepted family met n false true is sound =
        ap (λ b. b && are_accepted free pages.accepts (inside pages taken below met n (read_node family n (pages.page n)))) is
        ∙ inside_accepted met n (read_node family n (pages.page n)) sound

  deep_accepted : (n : ℕ) (m : Bool) → Accepted free pages.accepts (place n ∷ too_deep n m)
  deep_accepted n true sound = cc
  deep_accepted n false sound = cc

  pub walk_accepted : (family : Family) (left : ℕ) (met : List Finding) (n : ℕ) → Accepted free pages.accepts (walk pages family taken left met n)
  unfolding walk
  walk_accepted family zero met n = deep_accepted n (is_met taken met n)
  walk_accepted family (suc left) met n =
      visit_accepted (walk pages family taken left) (walk_accepted family left) family met n (is_met taken met n) (pages.accepts n) refl

  record_accepted : (n : ℕ) (values : Option (List Datum)) → Accepted free pages.accepts (record_fault n values)
  record_accepted n None sound = refl
  record_accepted n (Some values) sound = refl

  records_accepted : (rows : List Row) → Accepted free pages.accepts (record_faults rows)
  records_accepted [] = λ sound. refl
  records_accepted (row ∷ rows) =
      both_accepted free pages.accepts (record_fault row.page (columns row.payload)) (record_faults rows)
      (record_accepted row.page (columns row.payload)) (records_accepted rows)

  pub tree_accepted : (family : Family) (root : ℕ) → Accepted free pages.accepts (tree_part pages family taken root)
  tree_accepted family root =
      let found = tree_walk pages family taken root in
      both_accepted free pages.accepts found (record_faults (entries found)) (walk_accepted family max_path [] root) (records_accepted (entries found))

  root_accepted : (rowid : ℤ) (root : Root) → Accepted free pages.accepts (root_fault pages rowid root)
  root_accepted rowid no_column = λ sound. refl
  root_accepted rowid no_tree = λ sound. refl
  root_accepted rowid (at_page (pos n)) = if_accepted free pages.accepts (is_in_range pages n) [] (fault (RootFault rowid) ∷ []) (λ sound. refl) (λ sound. refl)
  root_accepted rowid (at_page (negsuc n)) = λ sound. refl

  row_accepted : (rowid : ℤ) (values : Option (List Datum)) → Accepted free pages.accepts (schema_fault pages rowid values)
  row_accepted rowid None = λ sound. refl
  row_accepted rowid (Some values) = root_accepted rowid (root_of values)

  rows_accepted : (rows : List Row) → Accepted free pages.accepts (schema_faults pages rows)
  rows_accepted [] = λ sound. refl
  rows_accepted (row ∷ rows) =
      both_accepted free pages.accepts (schema_fault pages (rowid_or_0 row.rowid) (columns row.payload)) (schema_faults pages rows)
      (row_accepted (rowid_or_0 row.rowid) (columns row.payload)) (rows_accepted rows)

  pub schema_accepted : Accepted free pages.accepts (schema_part pages taken)
  schema_accepted =
      let found = tree_part pages Table taken 1 in
      both_accepted free pages.accepts found (schema_faults pages (entries found)) (tree_accepted Table 1) (rows_accepted (entries found))

-- ---- the freelist

module _ (pages : Pages) (taken : Test) where
  leaves_accepted : (met : List Finding) (ns : List ℕ) → Accepted true pages.accepts (leaves_of taken met ns)
  leaves_accepted met [] = λ sound. refl
  leaves_accepted met (n ∷ ns) =
      both_accepted true pages.accepts (if is_met taken met n then fault (PageTwice n) ∷ [] else []) (leaves_of taken (met ++ leaf n ∷ []) ns)
      (fault_accepted true pages.accepts (is_met taken met n) (PageTwice n)) (leaves_accepted (met ++ leaf n ∷ []) ns)

  found_accepted : (met : List Finding) (n : ℕ) (bytes : List ℕ) (trunk : Bool) (after : List Finding → List Finding)
      → ((now : List Finding) → Accepted true pages.accepts (after now)) → Accepted true pages.accepts (trunk_found taken met n bytes trunk after)
  found_accepted met n bytes false after p = λ sound. refl
  found_accepted met n bytes true after p =
      let found = leaves_of taken (met ++ place n ∷ []) (leaf_numbers bytes) in
      both_accepted true pages.accepts found (after (met ++ place n ∷ found)) (leaves_accepted (met ++ place n ∷ []) (leaf_numbers bytes)) (p (met ++ place n ∷ found))

  trunk_accepted : (met : List Finding) (n : ℕ) (m accepted : Bool) (after : List Finding → List Finding) → pages.accepts n ≡ accepted
      → ((now : List Finding) → Accepted true pages.accepts (after now)) → Accepted true pages.accepts (place n ∷ visit_trunk pages taken met n m accepted after)
  trunk_accepted met n true accepted after is p sound = cc
  trunk_accepted met n false false after is p sound = cc
  trunk_accepted met n false true after is p sound =
      ap (λ b. b && are_accepted true pages.accepts (trunk_found taken met n (pages.page n) (is_trunk pages (pages.page n)) after)) is
      ∙ found_accepted met n (pages.page n) (is_trunk pages (pages.page n)) after p sound

  trunks_accepted : (fuel n : ℕ) (met : List Finding) → Accepted true pages.accepts (trunks pages taken fuel n met)
  trunks_accepted zero n met = if_accepted true pages.accepts (n == 0) [] (place n ∷ (fault (PageTwice n) ∷ [])) (λ sound. refl) (λ sound. cc)
  trunks_accepted (suc fuel) n met =
      if_accepted true pages.accepts (n == 0) [] _ (λ sound. refl)
      (trunk_accepted met n (is_met taken met n) (pages.accepts n) (trunks pages taken fuel (next_trunk (pages.page n))) refl
      (λ now. trunks_accepted fuel (next_trunk (pages.page n)) now))

  pub freelist_accepted : Accepted true pages.accepts (freelist_walk pages taken)
  freelist_accepted =
      let found = lists_of pages taken in
      both_accepted true pages.accepts found _
      (if_accepted true pages.accepts (first_trunk pages == 0 || is_in_range pages (first_trunk pages)) (trunks pages taken pages.count (first_trunk pages) []) (fault (TrunkFault 1) ∷ [])
      (trunks_accepted pages.count (first_trunk pages) []) (λ sound. refl))
      (fault_accepted true pages.accepts (is_sound found && not (length (places found) == free_field pages)) (FreeCount (free_field pages) (length (places found))))

-- ---- all parts

-- a place is accepted
in_tree : (accepts : Test) (xs : List Finding) (n : ℕ) → are_accepted false accepts xs ≡ true → is_in (places xs) n ≡ true → accepts n ≡ true
in_tree accepts [] n all h = cc
in_tree accepts (place m ∷ xs) n all h = one_of (m == n) (is_in (places xs) n) h
    (λ is. ap accepts (sym (eqb-true m n is)) ∙ and_left (accepts m) (are_accepted false accepts xs) all)
    (λ later. in_tree accepts xs n (and_right (accepts m) (are_accepted false accepts xs) all) later)
in_tree accepts (leaf m ∷ xs) n all h = cc
in_tree accepts (entry r ∷ xs) n all h = in_tree accepts xs n all h
in_tree accepts (key k ∷ xs) n all h = in_tree accepts xs n all h
in_tree accepts (fault d ∷ xs) n all h = in_tree accepts xs n all h
in_tree accepts (refused m ∷ xs) n all h = in_tree accepts xs n all h

-- or a leaf
in_list : (accepts : Test) (xs : List Finding) (n : ℕ) → are_accepted true accepts xs ≡ true → is_in (places xs) n ≡ true → is_in (leaves xs) n ≡ false
    → accepts n ≡ true
in_list accepts [] n all h kept = cc
in_list accepts (place m ∷ xs) n all h kept = one_of (m == n) (is_in (places xs) n) h
    (λ is. ap accepts (sym (eqb-true m n is)) ∙ and_left (accepts m) (are_accepted true accepts xs) all)
    (λ later. in_list accepts xs n (and_right (accepts m) (are_accepted true accepts xs) all) later kept)
in_list accepts (leaf m ∷ xs) n all h kept =
    in_list accepts xs n all (or_only (m == n) (is_in (places xs) n) (or_left (m == n) (is_in (leaves xs) n) kept) h) (or_right (m == n) (is_in (leaves xs) n) kept)
in_list accepts (entry r ∷ xs) n all h kept = in_list accepts xs n all h kept
in_list accepts (key k ∷ xs) n all h kept = in_list accepts xs n all h kept
in_list accepts (fault d ∷ xs) n all h kept = in_list accepts xs n all h kept
in_list accepts (refused m ∷ xs) n all h kept = in_list accepts xs n all h kept

-- each of these parts is accepted where it has no defect
abbrev AllAccepted : Test → List (List Finding) → Type 0
AllAccepted accepts [] = Unit {0}
AllAccepted accepts (part ∷ rest) = Accepted false accepts part × AllAccepted accepts rest

module _ (pages : Pages) where
  trees_accepted : (taken : Test) (roots : List ℕ) → AllAccepted pages.accepts (trees_from pages taken roots)
  trees_accepted taken [] = tt
  trees_accepted taken (root ∷ rest) =
      let found = tree_part pages (root_family root (pages.page root)) taken root in
      (tree_accepted false pages taken (root_family root (pages.page root)) root, trees_accepted (also (places found) taken) rest)

  if_trees : (c : Bool) (trees : List (List Finding)) → AllAccepted pages.accepts trees → AllAccepted pages.accepts (if c then trees else [])
  if_trees true trees all = all
  if_trees false trees all = tt

  in_parts : (parts : List (List Finding)) (n : ℕ) → AllAccepted pages.accepts parts → list_all is_sound parts ≡ true → is_in (all_places parts) n ≡ true
      → pages.accepts n ≡ true
  in_parts [] n all sound h = cc
  in_parts (part ∷ rest) n all sound h =
      one_of (is_in (places part) n) (is_in (all_places rest) n) (sym (list_any-append (λ m. m == n) (places part) (all_places rest)) ∙ h)
      (λ is. in_tree pages.accepts part n (all.0 (and_left (is_sound part) (list_all is_sound rest) sound)) is)
      (λ later. in_parts rest n all.1 (and_right (is_sound part) (list_all is_sound rest) sound) later)

  -- a page with a place in a database without a defect is accepted, or a leaf of the freelist
  pub used_accepted : (n : ℕ) → is_database pages ≡ true → is_in (all_places (parts pages)) n ≡ true
      → is_in (leaves (freelist_walk pages nothing)) n ≡ false → pages.accepts n ≡ true
  used_accepted n sound h kept =
      let freelist = freelist_walk pages nothing in
      let taken = also (places freelist) nothing in
      let schema = schema_part pages taken in
      let rest = schema ∷ trees_of pages taken schema in
      one_of (is_in (places freelist) n) (is_in (all_places rest) n) (sym (list_any-append (λ m. m == n) (places freelist) (all_places rest)) ∙ h)
      (λ is. in_list pages.accepts freelist n (freelist_accepted pages nothing (and_left (is_sound freelist) (list_all is_sound rest) sound)) is kept)
      (λ later. in_parts rest n
      (schema_accepted false pages taken, if_trees (is_sound schema) _ (trees_accepted (also (places schema) taken) (roots (entries schema))))
      (and_right (is_sound freelist) (list_all is_sound rest) sound) later)
