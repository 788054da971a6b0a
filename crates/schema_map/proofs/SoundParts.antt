-- What holds of a database without a defect: its schema, and the tree of each schema row, read by themselves.
use Rattle.std.proofs.Common.{◌≡◌, ℕ, zero, suc, ◌+◌, ◌≤◌, Bool, true, false, ◌&&◌, if◌then◌else◌, List, [], ◌∷◌, ◌++◌, Option, Some, None, length, map, sum, arith, refl, ap, sym, subst, ◌∙◌}
use Rattle.std.specs.Prelude.{ℤ, pos, negsuc, is_some, sum_by}
use Rattle.std.specs.List.{Contains, All, list_all}
use Rattle.std.proofs.lemmas.List.{append-nil}
use Rattle.std.proofs.lemmas.List.Elements.{All-nil, All-cons, Contains-append_left, Contains-append_right}
use Rattle.std.proofs.lemmas.List.Sums.{sum_by-cons}
use Rattle.db_format.specs.declared.defect.Defect.{Defect}
use Rattle.btree_page.specs.declared.kind.Family.{Family}
use Rattle.btree_page.specs.declared.kind.Family.TheVariants.{Table}
use Rattle.db_format.specs.Pages.{Pages, Test, nothing, also}
use Rattle.db_format.specs.Record.{columns}
use Rattle.db_format.specs.Value.{Datum}
use Rattle.btree_model.specs.Finding.{Row, Finding, fault, places, entries, faults, refusals, is_sound}
use Rattle.btree_model.specs.Freelist.{freelist_walk}
use Rattle.btree_model.specs.Parts.{counts, is_database, parts, trees_from, trees_of}
use Rattle.btree_model.specs.Records.{record_fault, record_faults, tree_part}
use Rattle.btree_model.specs.Schema.{Root, no_column, no_tree, at_page, root_of, root_fault, schema_fault, schema_faults, schema_part, roots, rowid_or_0}
use Rattle.btree_model.specs.Tree.{root_family, tree_walk}
use Rattle.btree_model.proofs.FindingLemmas.{entries-append}
use Rattle.btree_model.proofs.UnmarkedLemmas.{sound_left, sound_right}
use Rattle.schema_map.specs.Parts.{first_places}
use Rattle.schema_map.specs.Alone.{tree_rows}
use Rattle.schema_map.specs.Alone.{schema_rows}
use Rattle.schema_map.proofs.FewerMarks.{alone_as_after}

pub both_true : (a b : Bool) → (a && b) ≡ true → (a ≡ true) × (b ≡ true)
both_true true b h = (refl, h)
both_true false b h = absurd (cc)

sum_cons : (x : ℕ) (xs : List ℕ) → sum (x ∷ xs) ≡ x + sum xs
sum_cons x xs = sum_by-cons (λ n. n) x xs

-- ---- findings without a defect

pub sound_faults : (xs : List Finding) → is_sound xs ≡ true → faults xs ≡ []
sound_faults [] h = refl
sound_faults (Finding.place n ∷ xs) h = sound_faults xs h
sound_faults (Finding.leaf n ∷ xs) h = sound_faults xs h
sound_faults (Finding.entry row ∷ xs) h = sound_faults xs h
sound_faults (Finding.key k ∷ xs) h = sound_faults xs h
sound_faults (Finding.fault d ∷ xs) h = cc
sound_faults (Finding.refused n ∷ xs) h = cc

pub sound_refusals : (xs : List Finding) → is_sound xs ≡ true → refusals xs ≡ []
sound_refusals [] h = refl
sound_refusals (Finding.place n ∷ xs) h = sound_refusals xs h
sound_refusals (Finding.leaf n ∷ xs) h = sound_refusals xs h
sound_refusals (Finding.entry row ∷ xs) h = sound_refusals xs h
sound_refusals (Finding.key k ∷ xs) h = sound_refusals xs h
sound_refusals (Finding.fault d ∷ xs) h = cc
sound_refusals (Finding.refused n ∷ xs) h = cc

pub none_contained : {X : Type 0} (x : X) → Contains [] x → ⊥
none_contained x (k, less, is) = omega arith

-- ---- records

record_entries_by : (n : ℕ) (read : Option (List Datum)) → entries (record_fault n read) ≡ []
record_entries_by n None = refl
record_entries_by n (Some values) = refl

record_entries : (rows : List Row) → entries (record_faults rows) ≡ []
record_entries [] = refl
record_entries (row ∷ rows) =
    entries-append (record_fault row.page (columns row.payload)) (record_faults rows)
    ∙ ap (λ l. l ++ entries (record_faults rows)) (record_entries_by row.page (columns row.payload)) ∙ record_entries rows

pub part_entries : (found : List Finding) → entries (found ++ record_faults (entries found)) ≡ entries found
part_entries found =
    entries-append found (record_faults (entries found)) ∙ ap (λ l. entries found ++ l) (record_entries (entries found)) ∙ append-nil (entries found)

-- ---- a tree without a defect

module _ (pages : Pages) (family : Family) (root : ℕ) (taken : Test) (sound : is_sound (tree_part pages family taken root) ≡ true) where
  walk_alone : tree_walk pages family taken root ≡ tree_walk pages family nothing root
  walk_alone = alone_as_after pages family root taken (sound_left (tree_walk pages family taken root) (record_faults (entries (tree_walk pages family taken root))) sound)

  -- it is the same by itself
  pub part_alone : tree_part pages family taken root ≡ tree_part pages family nothing root
  part_alone = ap (λ found. found ++ record_faults (entries found)) walk_alone

  pub sound_alone : is_sound (tree_part pages family nothing root) ≡ true
  sound_alone = ap is_sound (sym part_alone) ∙ sound

  pub entries_alone : entries (tree_part pages family taken root) ≡ entries (tree_walk pages family nothing root)
  entries_alone = part_entries (tree_walk pages family taken root) ∙ ap entries walk_alone

-- ---- the trees of the schema's rows

-- the tree with this root, as a part by itself
abbrev pub root_part : Pages → ℕ → List Finding
root_part pages root = tree_part pages (root_family root (pages.page root)) nothing root

pub trees_sound : (pages : Pages) (taken : Test) (numbers : List ℕ) → list_all is_sound (trees_from pages taken numbers) ≡ true
    → All (λ root. is_sound (root_part pages root) ≡ true) numbers
trees_sound pages taken [] h = All-nil (λ root. is_sound (root_part pages root) ≡ true)
trees_sound pages taken (root ∷ rest) h =
    let each = both_true (is_sound (tree_part pages (root_family root (pages.page root)) taken root)) _ h in
    All-cons (λ n. is_sound (root_part pages n) ≡ true) root rest (sound_alone pages (root_family root (pages.page root)) root taken each.0)
    (trees_sound pages (also (places (tree_part pages (root_family root (pages.page root)) taken root)) taken) rest each.1)

pub trees_entries : (pages : Pages) (taken : Test) (numbers : List ℕ) → list_all is_sound (trees_from pages taken numbers) ≡ true
    → sum (map (λ part. length (entries part)) (trees_from pages taken numbers)) ≡ sum_by (λ root. length (tree_rows pages root)) numbers
trees_entries pages taken [] h = refl
trees_entries pages taken (root ∷ rest) h =
    let part : List Finding = tree_part pages (root_family root (pages.page root)) taken root in
    let later : List (List Finding) = trees_from pages (also (places part) taken) rest in
    let each = both_true (is_sound part) (list_all is_sound later) h in
    sum_cons (length (entries part)) (map (λ (p : List Finding). length (entries p)) later)
    ∙ ap (λ (l : List Row). length l + sum (map (λ (p : List Finding). length (entries p)) later))
    (entries_alone pages (root_family root (pages.page root)) root taken each.0)
    ∙ ap (λ n. length (tree_rows pages root) + n) (trees_entries pages (also (places part) taken) rest each.1)
    ∙ sym (sum_by-cons (λ n. length (tree_rows pages n)) root rest)

-- ---- the schema

rows_recorded_by : (n : ℕ) (read : Option (List Datum)) → is_sound (record_fault n read) ≡ true → is_some read ≡ true
rows_recorded_by n None h = cc
rows_recorded_by n (Some values) h = refl

rows_recorded : (rows : List Row) → is_sound (record_faults rows) ≡ true → All (λ row. is_some (columns row.payload) ≡ true) rows
rows_recorded [] h = All-nil (λ (row : Row). is_some (columns row.payload) ≡ true)
rows_recorded (row ∷ rows) h =
    All-cons (λ (r : Row). is_some (columns r.payload) ≡ true) row rows (rows_recorded_by row.page (columns row.payload) (sound_left (record_fault row.page (columns row.payload)) (record_faults rows) h))
    (rows_recorded rows (sound_right (record_fault row.page (columns row.payload)) (record_faults rows) h))

if_entries : (c : Bool) (d : Defect) → entries (if c then [] else fault d ∷ []) ≡ []
if_entries true d = refl
if_entries false d = refl

module _ (pages : Pages) where
  root_entries : (rowid : ℤ) (root : Root) → entries (root_fault pages rowid root) ≡ []
  root_entries rowid no_column = refl
  root_entries rowid no_tree = refl
  root_entries rowid (at_page (negsuc n)) = refl
  root_entries rowid (at_page (pos n)) = if_entries _ _

  schema_entries_by : (rowid : ℤ) (read : Option (List Datum)) → entries (schema_fault pages rowid read) ≡ []
  schema_entries_by rowid None = refl
  schema_entries_by rowid (Some values) = root_entries rowid (root_of values)

  schema_entries : (rows : List Row) → entries (schema_faults pages rows) ≡ []
  schema_entries [] = refl
  schema_entries (row ∷ rows) =
      entries-append (schema_fault pages (rowid_or_0 row.rowid) (columns row.payload)) (schema_faults pages rows)
      ∙ ap (λ l. l ++ entries (schema_faults pages rows)) (schema_entries_by (rowid_or_0 row.rowid) (columns row.payload)) ∙ schema_entries rows

  module _ (taken : Test) (sound : is_sound (schema_part pages taken) ≡ true) where
    tree_sound : is_sound (tree_part pages Table taken 1) ≡ true
    tree_sound = sound_left (tree_part pages Table taken 1) (schema_faults pages (entries (tree_part pages Table taken 1))) sound

    pub schema_alone : entries (schema_part pages taken) ≡ schema_rows pages
    schema_alone =
        entries-append (tree_part pages Table taken 1) (schema_faults pages (entries (tree_part pages Table taken 1)))
        ∙ ap (λ l. entries (tree_part pages Table taken 1) ++ l) (schema_entries (entries (tree_part pages Table taken 1)))
        ∙ append-nil (entries (tree_part pages Table taken 1))
        ∙ entries_alone pages Table 1 taken tree_sound

    -- each is a record
    pub schema_recorded : All (λ (row : Row). is_some (columns row.payload) ≡ true) (schema_rows pages)
    schema_recorded =
        rows_recorded (schema_rows pages)
        (sound_right (tree_walk pages Table nothing 1) (record_faults (schema_rows pages)) (sound_alone pages Table 1 taken tree_sound))

-- ---- a database without a defect

if_sound : {X : Type 0} (b : Bool) (xs : List X) → b ≡ true → (if b then xs else []) ≡ xs
if_sound b xs is = ap (λ (c : Bool). if c then xs else []) is

-- a page of one of the trees
trees_place : (pages : Pages) (taken : Test) (numbers : List ℕ) (root page : ℕ) → list_all is_sound (trees_from pages taken numbers) ≡ true
    → Contains numbers root → Contains (places (root_part pages root)) page → Contains (first_places (trees_from pages taken numbers)) page
trees_place pages taken [] root page h (k, less, is) placed = absurd (omega arith)
trees_place pages taken (first ∷ rest) root page h (zero, less, is) placed =
    let part : List Finding = tree_part pages (root_family first (pages.page first)) taken first in
    let each = both_true (is_sound part) (list_all is_sound (trees_from pages (also (places part) taken) rest)) h in
    Contains-append_left (places part) (if is_sound part then first_places (trees_from pages (also (places part) taken) rest) else []) page
    (subst (λ (l : List Finding). Contains (places l) page) (sym (part_alone pages (root_family first (pages.page first)) first taken each.0))
    (subst (λ n. Contains (places (root_part pages n)) page) (sym is) placed))
trees_place pages taken (first ∷ rest) root page h (suc k, less, is) placed =
    let part : List Finding = tree_part pages (root_family first (pages.page first)) taken first in
    let later : List (List Finding) = trees_from pages (also (places part) taken) rest in
    let each = both_true (is_sound part) (list_all is_sound later) h in
    Contains-append_right (places part) (if is_sound part then first_places later else []) page
    (subst (λ (l : List ℕ). Contains l page) (sym (if_sound (is_sound part) (first_places later) each.0))
    (trees_place pages (also (places part) taken) rest root page each.1 (k, omega arith, is) placed))

-- the pages of the freelist, the schema after it, and the trees after both
abbrev pub free : Pages → Test
free pages = also (places (freelist_walk pages nothing)) nothing

abbrev pub schema : Pages → List Finding
schema pages = schema_part pages (free pages)

abbrev pub trees : Pages → List (List Finding)
trees pages = trees_from pages (also (places (schema pages)) (free pages)) (roots (entries (schema pages)))

module _ (pages : Pages) (sound : is_database pages ≡ true) where
  pub both_sound : (is_sound (freelist_walk pages nothing) ≡ true) × (list_all is_sound (schema pages ∷ trees_of pages (free pages) (schema pages)) ≡ true)
  both_sound = both_true (is_sound (freelist_walk pages nothing)) (list_all is_sound (schema pages ∷ trees_of pages (free pages) (schema pages))) sound

  pub schema_sound : is_sound (schema pages) ≡ true
  schema_sound = (both_true (is_sound (schema pages)) (list_all is_sound (trees_of pages (free pages) (schema pages))) both_sound.1).0

  trees_are : trees_of pages (free pages) (schema pages) ≡ trees pages
  trees_are = if_sound (is_sound (schema pages)) (trees pages) schema_sound

  pub all_sound : list_all is_sound (trees pages) ≡ true
  all_sound = ap (list_all is_sound) (sym trees_are) ∙ (both_true (is_sound (schema pages)) (list_all is_sound (trees_of pages (free pages) (schema pages))) both_sound.1).1

  pub rows_are : entries (schema pages) ≡ schema_rows pages
  rows_are = schema_alone pages (free pages) schema_sound

  -- each row of the schema is a record
  pub database_recorded : All (λ (row : Row). is_some (columns row.payload) ≡ true) (schema_rows pages)
  database_recorded = schema_recorded pages (free pages) schema_sound

  -- the tree of each row has no defect
  pub database_trees : All (λ root. is_sound (root_part pages root) ≡ true) (roots (schema_rows pages))
  database_trees =
      subst (λ (rows : List Row). All (λ root. is_sound (root_part pages root) ≡ true) (roots rows)) rows_are
      (trees_sound pages (also (places (schema pages)) (free pages)) (roots (entries (schema pages))) all_sound)

  -- its pages are among those of the parts
  pub database_place : (root page : ℕ) → Contains (roots (schema_rows pages)) root → Contains (places (root_part pages root)) page
      → Contains (first_places (parts pages)) page
  database_place root page listed placed =
      let here : Contains (first_places (trees pages)) page =
      trees_place pages (also (places (schema pages)) (free pages)) (roots (entries (schema pages))) root page all_sound
      (subst (λ (rows : List Row). Contains (roots rows) root) (sym rows_are) listed) placed in
      Contains-append_right (places (freelist_walk pages nothing)) (if is_sound (freelist_walk pages nothing) then first_places (schema pages ∷ trees_of pages (free pages) (schema pages)) else []) page
      (subst (λ (l : List ℕ). Contains l page) (sym (if_sound (is_sound (freelist_walk pages nothing)) (first_places (schema pages ∷ trees_of pages (free pages) (schema pages))) both_sound.0))
      (Contains-append_right (places (schema pages)) (if is_sound (schema pages) then first_places (trees_of pages (free pages) (schema pages)) else []) page
      (subst (λ (l : List ℕ). Contains l page) (sym (if_sound (is_sound (schema pages)) (first_places (trees_of pages (free pages) (schema pages))) schema_sound))
      (subst (λ (l : List (List Finding)). Contains (first_places l) page) (sym trees_are) here))))

  -- the trees have at most as many entries as all parts
  pub database_few : sum_by (λ root. length (tree_rows pages root)) (roots (schema_rows pages)) ≤ (counts pages).rows
  database_few =
      let of_trees : sum_by (λ root. length (tree_rows pages root)) (roots (schema_rows pages)) ≡ sum (map (λ (part : List Finding). length (entries part)) (trees_of pages (free pages) (schema pages))) =
      ap (λ (rows : List Row). sum_by (λ root. length (tree_rows pages root)) (roots rows)) (sym rows_are)
      ∙ sym (trees_entries pages (also (places (schema pages)) (free pages)) (roots (entries (schema pages))) all_sound)
      ∙ ap (λ (l : List (List Finding)). sum (map (λ (part : List Finding). length (entries part)) l)) (sym trees_are) in
      let first = sum_cons (length (entries (freelist_walk pages nothing))) (map (λ (part : List Finding). length (entries part)) (schema pages ∷ trees_of pages (free pages) (schema pages))) in
      let second = sum_cons (length (entries (schema pages))) (map (λ (part : List Finding). length (entries part)) (trees_of pages (free pages) (schema pages))) in
      omega (arith, of_trees, first, second)

  -- the rows of the schema, after the freelist or by themselves
  pub database_schema : entries (schema_part pages (also (places (freelist_walk pages nothing)) nothing)) ≡ schema_rows pages
  database_schema = rows_are
