-- The parts of a database are the same over pages that differ only at leaves of its freelist.
use Rattle.std.proofs.Common.{◌≡◌, ℕ, zero, suc, ℤ, pos, negsuc, Bool, true, false, List, [], ◌∷◌, ◌++◌, ◌&&◌, ◌||◌, ◌==◌, Option, Some, None, if◌then◌else◌, refl, ap, sym, ◌∙◌}
use Rattle.std.specs.Prelude.{length, nat_le, not}
use Rattle.std.specs.List.{list_all}
use Rattle.std.proofs.lemmas.Bool.{eqb-true}
use Rattle.btree_page.specs.declared.kind.Family.{Family}
use Rattle.btree_page.specs.declared.kind.Family.TheVariants.{Table}
use Rattle.db_format.specs.Bytes.{u32_at}
use Rattle.db_format.specs.Pages.{Pages, Test, nothing, also}
use Rattle.db_format.specs.Record.{columns}
use Rattle.db_format.specs.Value.{Datum}
use Rattle.db_format.specs.declared.defect.Defect.TheVariants.{FreeCount, PageTwice, RootFault, TrunkFault}
use Rattle.btree_model.specs.Finding.{Finding, Row, place, leaf, fault, places, leaves, entries, is_sound}
use Rattle.btree_model.specs.Freelist.{first_trunk, free_field, freelist_walk, leaf_numbers, leaves_of, lists_of, next_trunk, is_trunk, trunk_found, trunks, visit_trunk}
use Rattle.btree_model.specs.Parts.{parts, trees_from, trees_of}
use Rattle.btree_model.specs.Range.{is_in_range}
use Rattle.btree_model.specs.Records.{record_faults, tree_part}
use Rattle.btree_model.specs.Schema.{Root, at_page, no_column, no_tree, root_fault, root_of, roots, rowid_or_0, schema_fault, schema_faults, schema_part}
use Rattle.btree_model.specs.Tree.{max_path, root_family}
use Rattle.btree_model.specs.Walk.{is_met, walk}
use Rattle.btree_model.proofs.LeafLemmas.{in_leaves, is_in, no_leaf, trunks_same}
use Rattle.btree_model.proofs.UnmarkedLemmas.{and_left, and_right, or_left, or_right, sound_left}
use Rattle.btree_model.proofs.UnreadLemmas.{AreAlikeBut, same_range, walk_same}

-- ---- page 1 is no leaf

not_first : (n : ℕ) (b : Bool) → (n == 1) ≡ b → nat_le 2 n ≡ true → (n == 1) ≡ false
not_first n false is low = is
not_first n true is low = let one : true ≡ nat_le 2 1 = sym low ∙ ap (nat_le 2) (eqb-true n 1 is) in cc

module _ (pages : Pages) (taken : Test) where
  -- page 1 is none of these
  abbrev IsNoFirst : List Finding → Type 0
  IsNoFirst found = is_in (leaves found) 1 ≡ false

  first_step : (n : ℕ) (m : Bool) (rest : List Finding) → nat_le 2 n ≡ true → IsNoFirst rest
      → IsNoFirst (leaf n ∷ ((if m then fault (PageTwice n) ∷ [] else []) ++ rest))
  first_step n true rest low later = ap (λ b. b || is_in (leaves rest) 1) (not_first n (n == 1) refl low) ∙ later
  first_step n false rest low later = ap (λ b. b || is_in (leaves rest) 1) (not_first n (n == 1) refl low) ∙ later

  leaves_first : (met : List Finding) (ns : List ℕ) → list_all (is_in_range pages) ns ≡ true → IsNoFirst (leaves_of taken met ns)
  leaves_first met [] all = refl
  leaves_first met (n ∷ ns) all =
      first_step n (is_met taken met n) (leaves_of taken (met ++ leaf n ∷ []) ns)
      (and_left (nat_le 2 n) (nat_le n pages.count) (and_left (is_in_range pages n) (list_all (is_in_range pages) ns) all))
      (leaves_first (met ++ leaf n ∷ []) ns (and_right (is_in_range pages n) (list_all (is_in_range pages) ns) all))

  found_first : (met : List Finding) (n : ℕ) (bytes : List ℕ) (trunk : Bool) (after : List Finding → List Finding) → is_trunk pages bytes ≡ trunk
      → ((now : List Finding) → IsNoFirst (after now)) → IsNoFirst (trunk_found taken met n bytes trunk after)
  found_first met n bytes false after is p = refl
  found_first met n bytes true after is p =
      let found = leaves_of taken (met ++ place n ∷ []) (leaf_numbers bytes) in
      let rest = after (met ++ place n ∷ found) in
      in_leaves found rest 1
      ∙ ap (λ b. b || is_in (leaves rest) 1) (leaves_first (met ++ place n ∷ []) (leaf_numbers bytes) (and_right _ (list_all (is_in_range pages) (leaf_numbers bytes)) is))
      ∙ p (met ++ place n ∷ found)

  visit_first : (met : List Finding) (n : ℕ) (m accepted : Bool) (after : List Finding → List Finding)
      → ((now : List Finding) → IsNoFirst (after now)) → IsNoFirst (visit_trunk pages taken met n m accepted after)
  visit_first met n true accepted after p = refl
  visit_first met n false false after p = refl
  visit_first met n false true after p = found_first met n (pages.page n) (is_trunk pages (pages.page n)) after refl p

  if_first : (b : Bool) (one other : List Finding) → IsNoFirst one → IsNoFirst other → IsNoFirst (if b then one else other)
  if_first true one other p q = p
  if_first false one other p q = q

  trunks_first : (fuel n : ℕ) (met : List Finding) → IsNoFirst (trunks pages taken fuel n met)
  trunks_first zero n met = if_first (n == 0) [] (place n ∷ (fault (PageTwice n) ∷ [])) refl refl
  trunks_first (suc fuel) n met =
      if_first (n == 0) [] (place n ∷ visit_trunk pages taken met n (is_met taken met n) (pages.accepts n) (trunks pages taken fuel (next_trunk (pages.page n)))) refl
      (visit_first met n (is_met taken met n) (pages.accepts n) (trunks pages taken fuel (next_trunk (pages.page n)))
      (λ now. trunks_first fuel (next_trunk (pages.page n)) now))

  lists_first : IsNoFirst (lists_of pages taken)
  lists_first =
      if_first (first_trunk pages == 0 || is_in_range pages (first_trunk pages)) (trunks pages taken pages.count (first_trunk pages) []) (fault (TrunkFault 1) ∷ [])
      (trunks_first pages.count (first_trunk pages) []) refl

-- ---- the freelist

if_sound_same : (b : Bool) (one one' other : List Finding) → is_sound (if b then one else other) ≡ true → (b ≡ true → is_sound one ≡ true → one' ≡ one)
    → (if b then one' else other) ≡ (if b then one else other)
if_sound_same true one one' other sound p = p refl sound
if_sound_same false one one' other sound p = refl

no_leaf_of_fault : (b : Bool) (n kept found : ℕ) → is_in (leaves (if b then fault (FreeCount kept found) ∷ [] else [])) n ≡ false
no_leaf_of_fault true n kept found = refl
no_leaf_of_fault false n kept found = refl

module _ (old new : Pages) (taken : Test) where
  -- the lists, by the pages that differ
  lists_same : is_sound (lists_of old taken) ≡ true → AreAlikeBut (is_in (leaves (lists_of old taken))) old new → lists_of new taken ≡ lists_of old taken
  lists_same sound same =
      let first : first_trunk new ≡ first_trunk old = ap (λ bytes. u32_at bytes 32) (same.alike 1 (lists_first old taken)).bytes in
      let n = first_trunk old in
      let test : (n == 0 || is_in_range new n) ≡ (n == 0 || is_in_range old n) = ap (λ b. n == 0 || b) (same_range (is_in (leaves (lists_of old taken))) old new same n) in
      let stop = fault (TrunkFault 1) ∷ [] in
      ap (λ m. if m == 0 || is_in_range new m then trunks new taken new.count m [] else stop) first
      ∙ ap (λ b. if b then trunks new taken new.count n [] else stop) test
      ∙ ap (λ c. if n == 0 || is_in_range old n then trunks new taken c n [] else stop) same.count
      ∙ if_sound_same (n == 0 || is_in_range old n) (trunks old taken old.count n []) (trunks new taken old.count n []) stop sound
      (λ is one. trunks_same taken old new (lists_of old taken) sound same old.count n []
      (ap (λ b. if b then trunks old taken old.count n [] else stop) is))

  pub freelist_same : is_sound (freelist_walk old taken) ≡ true → AreAlikeBut (is_in (leaves (freelist_walk old taken))) old new
      → freelist_walk new taken ≡ freelist_walk old taken
  freelist_same sound same =
      let found = lists_of old taken in
      let last : ℕ → List Finding = λ field. if is_sound found && not (length (places found) == field) then fault (FreeCount field (length (places found))) ∷ [] else [] in
      let whole : is_sound found ≡ true = sound_left found (last (free_field old)) sound in
      let alike : AreAlikeBut (is_in (leaves found)) old new = record {
        count = same.count;
        usable = same.usable;
        alike = λ n no_leaf. same.alike n
            (in_leaves found (last (free_field old)) n
            ∙ ap (λ b. b || is_in (leaves (last (free_field old))) n) no_leaf
            ∙ no_leaf_of_fault (is_sound found && not (length (places found) == free_field old)) n (free_field old) (length (places found)));
      } in
      let field : free_field new ≡ free_field old = ap (λ bytes. u32_at bytes 36) (alike.alike 1 (lists_first old taken)).bytes in
      ap (λ l. l ++ (if is_sound l && not (length (places l) == free_field new) then fault (FreeCount (free_field new) (length (places l))) ∷ [] else [])) (lists_same whole alike)
      ∙ ap (λ f. found ++ last f) field

-- ---- the schema and the trees

-- a root with a place in an earlier part is met twice, whatever its family
root_twice : (pages : Pages) (taken : Test) (family : Family) (root : ℕ) → taken root ≡ true
    → tree_part pages family taken root ≡ place root ∷ (fault (PageTwice root) ∷ [])
unfolding walk
root_twice pages taken family root is = rw is refl

module _ (taken : Test) (old new : Pages) (same : AreAlikeBut taken old new) where
  tree_same : (family : Family) (root : ℕ) → tree_part new family taken root ≡ tree_part old family taken root
  tree_same family root = ap (λ found. found ++ record_faults (entries found)) (walk_same taken old new same family max_path [] root)

  root_fault_same : (rowid : ℤ) (root : Root) → root_fault new rowid root ≡ root_fault old rowid root
  root_fault_same rowid no_column = refl
  root_fault_same rowid no_tree = refl
  root_fault_same rowid (at_page (pos n)) = ap (λ b. if b then [] else fault (RootFault rowid) ∷ []) (same_range taken old new same n)
  root_fault_same rowid (at_page (negsuc n)) = refl

  schema_fault_same : (rowid : ℤ) (values : Option (List Datum)) → schema_fault new rowid values ≡ schema_fault old rowid values
  schema_fault_same rowid None = refl
  schema_fault_same rowid (Some values) = root_fault_same rowid (root_of values)

  schema_faults_same : (rows : List Row) → schema_faults new rows ≡ schema_faults old rows
  schema_faults_same [] = refl
  schema_faults_same (row ∷ rows) =
      ap (λ l. l ++ schema_faults new rows) (schema_fault_same (rowid_or_0 row.rowid) (columns row.payload))
      ∙ ap (λ l. schema_fault old (rowid_or_0 row.rowid) (columns row.payload) ++ l) (schema_faults_same rows)

  schema_same : schema_part new taken ≡ schema_part old taken
  schema_same =
      ap (λ found. found ++ schema_faults new (entries found)) (tree_same Table 1)
      ∙ ap (λ l. tree_part old Table taken 1 ++ l) (schema_faults_same (entries (tree_part old Table taken 1)))

  -- the tree with this root, of the family that its page has
  rooted_same : (root : ℕ) (met : Bool) → taken root ≡ met
      → tree_part new (root_family root (new.page root)) taken root ≡ tree_part old (root_family root (old.page root)) taken root
  rooted_same root true is =
      root_twice new taken (root_family root (new.page root)) root is ∙ sym (root_twice old taken (root_family root (old.page root)) root is)
  rooted_same root false is =
      ap (λ bytes. tree_part new (root_family root bytes) taken root) (same.alike root is).bytes ∙ tree_same (root_family root (old.page root)) root

module _ (old new : Pages) where
  still_alike : (ns : List ℕ) (taken : Test) → AreAlikeBut taken old new → AreAlikeBut (also ns taken) old new
  still_alike ns taken same =
      record { count = same.count; usable = same.usable; alike = λ n fresh. same.alike n (or_right (is_in ns n) (taken n) fresh) }

  trees_same : (taken : Test) (roots : List ℕ) → AreAlikeBut taken old new → trees_from new taken roots ≡ trees_from old taken roots
  trees_same taken [] same = refl
  trees_same taken (root ∷ rest) same =
      let found = tree_part old (root_family root (old.page root)) taken root in
      ap (λ l. l ∷ trees_from new (also (places l) taken) rest) (rooted_same taken old new same root (taken root) refl)
      ∙ ap (λ l. found ∷ l) (trees_same (also (places found) taken) rest (still_alike (places found) taken same))

  -- all parts, defects of the schema and of the trees included
  pub parts_same : is_sound (freelist_walk old nothing) ≡ true → AreAlikeBut (is_in (leaves (freelist_walk old nothing))) old new → parts new ≡ parts old
  parts_same sound same =
      let freelist = freelist_walk old nothing in
      let taken = also (places freelist) nothing in
      let schema = schema_part old taken in
      let rest : AreAlikeBut taken old new = record {
        count = same.count;
        usable = same.usable;
        alike = λ n fresh. same.alike n (no_leaf freelist n (or_left (is_in (places freelist) n) false fresh));
      } in
      ap (λ l. l ∷ (schema_part new (also (places l) nothing) ∷ trees_of new (also (places l) nothing) (schema_part new (also (places l) nothing))))
      (freelist_same old new nothing sound same)
      ∙ ap (λ l. freelist ∷ (l ∷ trees_of new taken l)) (schema_same taken old new rest)
      ∙ ap (λ l. freelist ∷ (schema ∷ (if is_sound schema then l else [])))
      (trees_same (also (places schema) taken) (roots (entries schema)) (still_alike (places schema) taken rest))
