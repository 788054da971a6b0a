-- Pages that read alike as a database: all but page 1 are the same, and that one is the same page of a tree with the same fields of the freelist.
use Rattle.std.proofs.Common.{◌≡◌, ℕ, zero, suc, ℤ, pos, negsuc, Bool, true, false, List, [], ◌∷◌, ◌++◌, ◌==◌, ◌&&◌, ◌||◌, ◌-◌, ◌/◌, drop, take, map, length, Option, Some, None, Result, Ok, Err, if◌then◌else◌, refl, sym, ap, ◌∙◌}
use Rattle.std.specs.Prelude.{nat_le, not}
use Rattle.std.specs.List.{list_all}
use Rattle.std.proofs.Math.Dec.{eqb-suc-zero}
use Rattle.std.proofs.lemmas.Bool.{eqb-true}
use Rattle.btree_page.specs.Cell.{StoredCell}
use Rattle.btree_page.specs.Page.{Node, read_node}
use Rattle.btree_page.specs.Step.{Step, child, divider, entry as cell, steps}
use Rattle.btree_page.specs.declared.kind.Family.{Family}
use Rattle.btree_page.specs.declared.kind.Family.TheVariants.{Table}
use Rattle.btree_page.specs.declared.page.PageFault.{PageFault}
use Rattle.db_format.specs.Bytes.{u32_at}
use Rattle.db_format.specs.Pages.{Pages, Test, also, nothing}
use Rattle.db_format.specs.Record.{columns}
use Rattle.db_format.specs.Value.{Datum}
use Rattle.db_format.specs.declared.defect.Defect.TheVariants.{ChainShort, ChildOutOfRange, FreeCount, RootFault, TrunkFault}
use Rattle.btree_model.proofs.UnmarkedLemmas.{and_left, and_right}
use Rattle.btree_model.specs.Content.{SchemaItem, content, entry_of, item_of, item_with, kept_fields, with_tree, without_fourth}
use Rattle.btree_model.specs.Finding.{Finding, Row, entries, entry, fault, is_sound, place, places}
use Rattle.btree_model.specs.Freelist.{first_trunk, free_field, freelist_walk, is_trunk, leaf_numbers, leaves_of, lists_of, next_trunk, trunk_found, trunks, visit_trunk}
use Rattle.btree_model.specs.Parts.{parts, trees_from, trees_of}
use Rattle.btree_model.specs.Range.{is_in_range}
use Rattle.btree_model.specs.Records.{record_faults, tree_part}
use Rattle.btree_model.specs.Schema.{Root, at_page, no_column, no_tree, root_fault, root_of, roots, rowid_or_0, schema_fault, schema_faults, schema_part}
use Rattle.btree_model.specs.Tree.{family_or_index, max_path, root_family, tree_walk}
use Rattle.btree_model.specs.Walk.{Below, chain, chain_bytes, chain_of, given, inside, is_met, link, links_needed, order_faults, payload_of, step, steps_of, visit, walk}
use Rattle.sqlcipher_tool.specs.ReadAlike.{AreReadAlike}

if_same : (b : Bool) (one one' other : List Finding) → (b ≡ true → one' ≡ one) → (if b then one' else other) ≡ (if b then one else other)
if_same true one one' other same = same refl
if_same false one one' other same = refl

link_same : (n : ℕ) (m accepted accepted' : Bool) (after after' : List Finding) → accepted' ≡ accepted → after' ≡ after → link n m accepted' after' ≡ link n m accepted after
link_same n m accepted accepted' after after' one two = ap (λ a. link n m a after') one ∙ ap (λ l. link n m accepted l) two

not_first : (n : ℕ) (b : Bool) → (n == 1) ≡ b → nat_le 2 n ≡ true → (n == 1) ≡ false
not_first n false is low = is
not_first n true is low = let one : true ≡ nat_le 2 1 = sym low ∙ ap (nat_le 2) (eqb-true n 1 is) in cc

module _ (old new : Pages) (all : AreReadAlike old new) where
  same_range : (n : ℕ) → is_in_range new n ≡ is_in_range old n
  same_range n = ap (λ c. nat_le 2 n && nat_le n c) all.count

  -- a page that another one names is not page 1
  named : (n : ℕ) → is_in_range old n ≡ true → (n == 1) ≡ false
  named n within = not_first n (n == 1) refl (and_left (nat_le 2 n) (nat_le n old.count) within)

  accepted_same : (n : ℕ) → new.accepts n ≡ old.accepts n
  accepted_same n = all.accepted n

  bytes_same : (n : ℕ) → is_in_range old n ≡ true → new.page n ≡ old.page n
  bytes_same n within = all.page n (named n within)

  by_first : (family : Family) (n : ℕ) (b : Bool) → (n == 1) ≡ b → read_node family n (new.page n) ≡ read_node family n (old.page n)
  by_first family n true is = ap (λ m. read_node family m (new.page m)) (eqb-true n 1 is) ∙ all.node family ∙ sym (ap (λ m. read_node family m (old.page m)) (eqb-true n 1 is))
  by_first family n false is = ap (read_node family n) (all.page n is)

  read_same : (family : Family) (n : ℕ) → read_node family n (new.page n) ≡ read_node family n (old.page n)
  read_same family n = by_first family n (n == 1) refl

  family_by : (n : ℕ) (b : Bool) → (n == 1) ≡ b → root_family n (new.page n) ≡ root_family n (old.page n)
  family_by n true is = ap (λ m. root_family m (new.page m)) (eqb-true n 1 is) ∙ ap family_or_index all.kind ∙ sym (ap (λ m. root_family m (old.page m)) (eqb-true n 1 is))
  family_by n false is = ap (root_family n) (all.page n is)

  family_same : (n : ℕ) → root_family n (new.page n) ≡ root_family n (old.page n)
  family_same n = family_by n (n == 1) refl

  module _ (taken : Test) where
    chain_same : (met : List Finding) (more holder n : ℕ) → chain new taken met more holder n ≡ chain old taken met more holder n
    chain_same met zero holder n = refl
    chain_same met (suc more) holder n =
        rw (same_range n)
        (ap (λ l. if n == 0 then fault (ChainShort holder) ∷ [] else l)
        (if_same (is_in_range old n) _ _ (fault (ChildOutOfRange holder) ∷ []) (λ within. link_same n (is_met taken met n) (old.accepts n) (new.accepts n) _ _ (accepted_same n)
        (ap (λ bytes. chain new taken (met ++ place n ∷ []) more n (u32_at bytes 0)) (bytes_same n within)
        ∙ chain_same (met ++ place n ∷ []) more n (u32_at (old.page n) 0)))))

    -- the bytes of a chain without a defect
    abbrev SameBytes : ℕ → ℕ → List Finding → Type 0
    SameBytes more n found = is_sound found ≡ true → chain_bytes new more n ≡ chain_bytes old more n

    link_bytes : (more n : ℕ) (m accepted : Bool) (after : List Finding) → new.page n ≡ old.page n → SameBytes more (u32_at (old.page n) 0) after → SameBytes (suc more) n (link n m accepted after)
    link_bytes more n true accepted after page p sound = cc
    link_bytes more n false false after page p sound = cc
    link_bytes more n false true after page p sound = rw page (ap (λ l. drop 4 (old.page n) ++ l) (p sound))

    if_bytes : (more n : ℕ) (c : Bool) (one other : List Finding) → (c ≡ true → SameBytes more n one) → SameBytes more n other → SameBytes more n (if c then one else other)
    if_bytes more n true one other p q = p refl
    if_bytes more n false one other p q = q

    chain_bytes_same : (met : List Finding) (more holder n : ℕ) → SameBytes more n (chain old taken met more holder n)
    chain_bytes_same met zero holder n = λ sound. refl
    chain_bytes_same met (suc more) holder n =
        if_bytes (suc more) n (n == 0) _ _ (λ is sound. cc)
        (if_bytes (suc more) n (is_in_range old n) _ _
        (λ within. link_bytes more n (is_met taken met n) (old.accepts n) _ (bytes_same n within) (chain_bytes_same (met ++ place n ∷ []) more n (u32_at (old.page n) 0)))
        (λ sound. cc))

    links_same : (stored : StoredCell) → links_needed new.usable stored ≡ links_needed old.usable stored
    links_same stored = ap (λ u. links_needed u stored) all.usable

    chain_of_same : (met : List Finding) (n : ℕ) (stored : StoredCell) → chain_of new taken met n stored ≡ chain_of old taken met n stored
    chain_of_same met n stored =
        rw (links_same stored)
        (ap (λ l. if links_needed old.usable stored == 0 then [] else (if stored.first == 0 then fault (ChildOutOfRange n) ∷ [] else l))
        (chain_same met (links_needed old.usable stored) n stored.first))

    no_links : (links first n : ℕ) (one : List Finding) → SameBytes links first one
        → SameBytes links first (if links == 0 then [] else (if first == 0 then fault (ChildOutOfRange n) ∷ [] else one))
    no_links zero first n one p = λ sound. refl
    no_links (suc links) first n one p =
        let some : (suc links == 0) ≡ false = eqb-suc-zero links in rw some (if_bytes (suc links) first (first == 0) _ _ (λ is sound. cc) p)

    payload_same : (met : List Finding) (n : ℕ) (stored : StoredCell) → is_sound (chain_of old taken met n stored) ≡ true → payload_of new stored ≡ payload_of old stored
    payload_same met n stored sound =
        ap (λ k. take stored.size (stored.local ++ chain_bytes new k stored.first)) (links_same stored)
        ∙ ap (λ l. take stored.size (stored.local ++ l))
        (no_links (links_needed old.usable stored) stored.first n _ (chain_bytes_same met (links_needed old.usable stored) n stored.first) sound)

    given_same : (met : List Finding) (n : ℕ) (rowid : Option ℤ) (stored : StoredCell) → given new taken met n rowid stored ≡ given old taken met n rowid stored
    given_same met n rowid stored =
        let found = chain_of old taken met n stored in
        rw (chain_of_same met n stored)
        (ap (λ l. order_faults met n rowid ++ (found ++ l))
        (if_same (is_sound found) _ _ [] (λ sound. ap (λ bytes. entry (record { rowid = rowid; payload = bytes; page = n }) ∷ []) (payload_same met n stored sound))))

    module _ (below again : Below) (same_below : (met : List Finding) (c : ℕ) → again met c ≡ below met c) where
      step_same : (met : List Finding) (n : ℕ) (s : Step) → step new taken again met n s ≡ step old taken below met n s
      step_same met n (child c) = rw (same_range c) (ap (λ l. if is_in_range old c then l else fault (ChildOutOfRange n) ∷ []) (same_below met c))
      step_same met n (divider k) = refl
      step_same met n (cell rowid stored) = given_same met n rowid stored

      steps_same : (todo : List Step) (met : List Finding) (n : ℕ) → steps_of new taken again met n todo ≡ steps_of old taken below met n todo
      steps_same [] met n = refl
      steps_same (s ∷ todo) met n =
          rw (step_same met n s)
          (ap (λ l. step old taken below met n s ++ l) (steps_same todo (met ++ step old taken below met n s) n))

      inside_same : (met : List Finding) (n : ℕ) (reading : Result Node PageFault) → inside new taken again met n reading ≡ inside old taken below met n reading
      inside_same met n (Err why) = refl
      inside_same met n (Ok page) = steps_same (steps page.cells page.right) (met ++ place n ∷ []) n

      visit_same : (family : Family) (met : List Finding) (n : ℕ) (m accepted : Bool) → visit new family taken again met n m accepted ≡ visit old family taken below met n m accepted
      visit_same family met n true accepted = refl
      visit_same family met n false false = refl
      visit_same family met n false true =
          ap (inside new taken again met n) (read_same family n) ∙ inside_same met n (read_node family n (old.page n))

    pub walk_same : (family : Family) (left : ℕ) (met : List Finding) (n : ℕ) → walk new family taken left met n ≡ walk old family taken left met n
    unfolding walk
    walk_same family zero met n = refl
    walk_same family (suc left) met n =
        ap (λ l. place n ∷ l)
        (ap (λ a. visit new family taken (walk new family taken left) met n (is_met taken met n) a) (accepted_same n)
        ∙ visit_same (walk old family taken left) (walk new family taken left) (walk_same family left) family met n (is_met taken met n) (old.accepts n))

    -- ---- the freelist

    trunk_same : (bytes : List ℕ) → is_trunk new bytes ≡ is_trunk old bytes
    trunk_same bytes = λ i. is_trunk (record { count = all.count i; usable = all.usable i; page = old.page; accepts = old.accepts }) bytes

    found_same : (met : List Finding) (n : ℕ) (bytes : List ℕ) (trunk : Bool) (after after' : List Finding → List Finding) → (trunk ≡ true → (now : List Finding) → after' now ≡ after now)
        → trunk_found taken met n bytes trunk after' ≡ trunk_found taken met n bytes trunk after
    found_same met n bytes false after after' p = refl
    found_same met n bytes true after after' p =
        let found = leaves_of taken (met ++ place n ∷ []) (leaf_numbers bytes) in ap (λ l. found ++ l) (p refl (met ++ place n ∷ found))

    visit_trunk_same : (met : List Finding) (n : ℕ) (m accepted : Bool) (after after' : List Finding → List Finding) → new.page n ≡ old.page n
        → (is_trunk old (old.page n) ≡ true → (now : List Finding) → after' now ≡ after now)
        → visit_trunk new taken met n m accepted after' ≡ visit_trunk old taken met n m accepted after
    visit_trunk_same met n true accepted after after' page p = refl
    visit_trunk_same met n false false after after' page p = refl
    visit_trunk_same met n false true after after' page p =
        ap (λ bytes. trunk_found taken met n bytes (is_trunk new bytes) after') page
        ∙ ap (λ t. trunk_found taken met n (old.page n) t after') (trunk_same (old.page n))
        ∙ found_same met n (old.page n) (is_trunk old (old.page n)) after after' p

    next_in_range : (bytes : List ℕ) → is_trunk old bytes ≡ true → (next_trunk bytes == 0 || is_in_range old (next_trunk bytes)) ≡ true
    next_in_range bytes is =
        let few = nat_le (u32_at bytes 4) (old.usable / 4 - 2) in
        let next = next_trunk bytes == 0 || is_in_range old (next_trunk bytes) in
        and_right few next (and_left (few && next) (list_all (is_in_range old) (leaf_numbers bytes)) is)

    trunks_same : (fuel n : ℕ) (met : List Finding) → (n == 0 || is_in_range old n) ≡ true → trunks new taken fuel n met ≡ trunks old taken fuel n met
    trunks_same zero n met is = refl
    trunks_same (suc fuel) n met is = by_zero (trunks_same fuel) (n == 0) is
      where
        by_zero : ((m : ℕ) (now : List Finding) → (m == 0 || is_in_range old m) ≡ true → trunks new taken fuel m now ≡ trunks old taken fuel m now)
            → (b : Bool) → (b || is_in_range old n) ≡ true
            → (if b then [] else place n ∷ visit_trunk new taken met n (is_met taken met n) (new.accepts n) (trunks new taken fuel (next_trunk (new.page n))))
            ≡ (if b then [] else place n ∷ visit_trunk old taken met n (is_met taken met n) (old.accepts n) (trunks old taken fuel (next_trunk (old.page n))))
        by_zero rest true is = refl
        by_zero rest false within =
            let page = bytes_same n within in
            ap (λ l. place n ∷ l)
            (ap (λ a. visit_trunk new taken met n (is_met taken met n) a (trunks new taken fuel (next_trunk (new.page n)))) (accepted_same n)
            ∙ visit_trunk_same met n (is_met taken met n) (old.accepts n) (trunks old taken fuel (next_trunk (old.page n))) (trunks new taken fuel (next_trunk (new.page n))) page
            (λ trunk now. ap (λ bytes. trunks new taken fuel (next_trunk bytes) now) page ∙ rest (next_trunk (old.page n)) now (next_in_range (old.page n) trunk)))

    lists_same : lists_of new taken ≡ lists_of old taken
    lists_same =
        let n = first_trunk old in
        let stop = fault (TrunkFault 1) ∷ [] in
        ap (λ m. if m == 0 || is_in_range new m then trunks new taken new.count m [] else stop) all.trunk
        ∙ ap (λ b. if n == 0 || b then trunks new taken new.count n [] else stop) (same_range n)
        ∙ ap (λ c. if n == 0 || is_in_range old n then trunks new taken c n [] else stop) all.count
        ∙ if_same (n == 0 || is_in_range old n) (trunks old taken old.count n []) (trunks new taken old.count n []) stop (λ is. trunks_same old.count n [] is)

    pub freelist_same : freelist_walk new taken ≡ freelist_walk old taken
    freelist_same =
        let found = lists_of old taken in
        ap (λ l. l ++ (if is_sound l && not (length (places l) == free_field new) then fault (FreeCount (free_field new) (length (places l))) ∷ [] else [])) lists_same
        ∙ ap (λ f. found ++ (if is_sound found && not (length (places found) == f) then fault (FreeCount f (length (places found))) ∷ [] else [])) all.free

    -- ---- the schema and the trees

    tree_same : (family : Family) (root : ℕ) → tree_part new family taken root ≡ tree_part old family taken root
    tree_same family root = ap (λ found. found ++ record_faults (entries found)) (walk_same family max_path [] root)

    rooted_same : (root : ℕ) → tree_part new (root_family root (new.page root)) taken root ≡ tree_part old (root_family root (old.page root)) taken root
    rooted_same root = ap (λ family. tree_part new family taken root) (family_same root) ∙ tree_same (root_family root (old.page root)) root

  root_fault_same : (rowid : ℤ) (root : Root) → root_fault new rowid root ≡ root_fault old rowid root
  root_fault_same rowid no_column = refl
  root_fault_same rowid no_tree = refl
  root_fault_same rowid (at_page (pos n)) = ap (λ b. if b then [] else fault (RootFault rowid) ∷ []) (same_range n)
  root_fault_same rowid (at_page (negsuc n)) = refl

  schema_fault_same : (rowid : ℤ) (values : Option (List Datum)) → schema_fault new rowid values ≡ schema_fault old rowid values
  schema_fault_same rowid None = refl
  schema_fault_same rowid (Some values) = root_fault_same rowid (root_of values)

  schema_faults_same : (rows : List Row) → schema_faults new rows ≡ schema_faults old rows
  schema_faults_same [] = refl
  schema_faults_same (row ∷ rows) =
      ap (λ l. l ++ schema_faults new rows) (schema_fault_same (rowid_or_0 row.rowid) (columns row.payload))
      ∙ ap (λ l. schema_fault old (rowid_or_0 row.rowid) (columns row.payload) ++ l) (schema_faults_same rows)

  schema_same : (taken : Test) → schema_part new taken ≡ schema_part old taken
  schema_same taken =
      ap (λ found. found ++ schema_faults new (entries found)) (tree_same taken Table 1)
      ∙ ap (λ l. tree_part old Table taken 1 ++ l) (schema_faults_same (entries (tree_part old Table taken 1)))

  trees_same : (taken : Test) (roots : List ℕ) → trees_from new taken roots ≡ trees_from old taken roots
  trees_same taken [] = refl
  trees_same taken (root ∷ rest) =
      let found = tree_part old (root_family root (old.page root)) taken root in
      ap (λ l. l ∷ trees_from new (also (places l) taken) rest) (rooted_same taken root)
      ∙ ap (λ l. found ∷ l) (trees_same (also (places found) taken) rest)

  -- all parts, defects included
  pub parts_same : parts new ≡ parts old
  parts_same =
      let freelist = freelist_walk old nothing in
      let taken = also (places freelist) nothing in
      let schema = schema_part old taken in
      ap (λ l. l ∷ (schema_part new (also (places l) nothing) ∷ trees_of new (also (places l) nothing) (schema_part new (also (places l) nothing)))) (freelist_same nothing)
      ∙ ap (λ l. freelist ∷ (l ∷ trees_of new taken l)) (schema_same taken)
      ∙ ap (λ l. freelist ∷ (schema ∷ (if is_sound schema then l else []))) (trees_same (also (places schema) taken) (roots (entries schema)))

  -- ---- what is held

  item_with_same : (rowid : ℤ) (payload : List ℕ) (values : List Datum) (root : Root) → item_with new rowid payload values root ≡ item_with old rowid payload values root
  item_with_same rowid payload values no_column = refl
  item_with_same rowid payload values no_tree = refl
  item_with_same rowid payload values (at_page (negsuc n)) = refl
  item_with_same rowid payload values (at_page (pos root)) =
      ap (λ family. with_tree rowid (without_fourth values) family (map entry_of (entries (tree_walk new family nothing root)))) (family_same root)
      ∙ ap (λ found. with_tree rowid (without_fourth values) (root_family root (old.page root)) (map entry_of (entries found))) (walk_same nothing (root_family root (old.page root)) max_path [] root)

  item_same : (row : Row) (values : Option (List Datum)) → item_of new row values ≡ item_of old row values
  item_same row None = refl
  item_same row (Some values) = item_with_same (rowid_or_0 row.rowid) row.payload values (root_of values)

  items_same : (rows : List Row) → map (λ row. item_of new row (columns row.payload)) rows ≡ map (λ row. item_of old row (columns row.payload)) rows
  items_same [] = refl
  items_same (row ∷ rows) =
      ap (λ (item : SchemaItem). item ∷ map (λ row. item_of new row (columns row.payload)) rows) (item_same row (columns row.payload))
      ∙ ap (λ (items : List SchemaItem). item_of old row (columns row.payload) ∷ items) (items_same rows)

  pub content_same : content new ≡ content old
  content_same =
      ap (λ (kept : List ℕ). record { kept = kept; rows = map (λ row. item_of new row (columns row.payload)) (entries (tree_walk new Table nothing 1)) }) all.kept
      ∙ ap (λ (found : List Finding). record { kept = kept_fields (old.page 1); rows = map (λ row. item_of new row (columns row.payload)) (entries found) }) (walk_same nothing Table max_path [] 1)
      ∙ ap (λ (items : List SchemaItem). record { kept = kept_fields (old.page 1); rows = items }) (items_same (entries (tree_walk old Table nothing 1)))
