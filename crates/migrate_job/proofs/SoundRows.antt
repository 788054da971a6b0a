-- The rows of the schema of a database without a defect.
use Rattle.std.proofs.Common.{◌≡◌, ◌≤◌, ◌<◌, ℕ, ℤ, zero, suc, pos, negsuc, true, false, Bool, List, [], ◌∷◌, ◌++◌, Option, Some, None, length, map, refl, ap, sym, subst, ◌∙◌, arith}
use Rattle.std.specs.Prelude.{is_some, nat_le, slice_index_or, ◌&&◌}
use Rattle.std.specs.List.{All, list_all}
use Rattle.std.specs.Cmp.Derive.{both_true}
use Rattle.std.proofs.lemmas.List.Elements.{All-cons, All-contains, All-nil, All-same, Contains-append_left, Contains-append_right}
use Rattle.db_format.specs.Pages.{Pages, nothing}
use Rattle.db_format.specs.Record.{columns}
use Rattle.db_format.specs.Value.{Datum}
use Rattle.btree_page.specs.declared.kind.Family.TheVariants.{Table}
use Rattle.btree_model.specs.Content.{entry_of, item_of}
use Rattle.btree_model.specs.Finding.{Finding, Row, entries, is_sound}
use Rattle.btree_model.specs.Parts.{is_database}
use Rattle.btree_model.specs.Range.{is_in_range}
use Rattle.btree_model.specs.Records.{record_fault, record_faults, tree_part}
use Rattle.btree_model.specs.Schema.{Root, at_page, no_column, no_tree, numbers_of, root_fault, root_of, roots, roots_of_row, rowid_or_0, schema_fault, schema_faults}
use Rattle.btree_model.specs.Tree.{root_family, tree_walk}
use Rattle.btree_model.proofs.UnmarkedLemmas.{sound_left, sound_right}
use Rattle.bulk_load.specs.Found.{is_record}
use Rattle.schema_map.specs.Alone.{schema_rows, tree_rows}
use Rattle.schema_map.specs.Census.{schema_after}
use Rattle.schema_map.specs.Root.{number_of, root_number}
use Rattle.schema_map.specs.Schema.{schema_row}
use Rattle.schema_map.specs.declared.schema.SchemaRow.{SchemaRow}
use Rattle.schema_map.proofs.SoundParts.{database_recorded, database_schema, database_trees, entries_alone, free, root_part, schema_sound}
use Rattle.migrate_job.specs.Copied.{IsOldTree, IsRooted, IsSoundRow}
use Rattle.migrate_job.proofs.CopiedLaws.{kept_item}

records_by : (n : ℕ) (read : Option (List Datum)) → is_sound (record_fault n read) ≡ true → is_some read ≡ true
records_by n None h = cc
records_by n (Some values) h = refl

records_of : (rows : List Row) → is_sound (record_faults rows) ≡ true → list_all is_record (map entry_of rows) ≡ true
records_of [] h = refl
records_of (row ∷ rows) h =
    both_true (records_by row.page (columns row.payload) (sound_left (record_fault row.page (columns row.payload)) (record_faults rows) h))
    (records_of rows (sound_right (record_fault row.page (columns row.payload)) (record_faults rows) h))

low_of_range : (n count : ℕ) → (nat_le 2 n && nat_le n count) ≡ true → 2 ≤ n
low_of_range n count h = grind arith

module _ (before : Pages) where
  old_tree : (values : List Datum) (root : ℕ) → root_of values ≡ at_page (pos root) → is_sound (root_part before root) ≡ true → IsOldTree before values root
  old_tree values root named sound = record {
    named = named;
    sound = sound_left (tree_walk before (root_family root (before.page root)) nothing root) (record_faults (tree_rows before root)) sound;
    records = records_of (tree_rows before root) (sound_right (tree_walk before (root_family root (before.page root)) nothing root) (record_faults (tree_rows before root)) sound);
  }

  if_range : (b : Bool) (rowid : ℤ) (n : ℕ) → b ≡ is_in_range before n → is_sound (root_fault before rowid (at_page (pos n))) ≡ true → is_in_range before n ≡ true
  if_range true rowid n is sound = sym is
  if_range false rowid n is sound = let no : is_sound (root_fault before rowid (at_page (pos n))) ≡ false = rw (sym is) refl in cc

  rooted_by : (rowid : ℤ) (values : List Datum) (root : Root) → root_of values ≡ root → is_sound (root_fault before rowid root) ≡ true
      → All (λ n. is_sound (root_part before n) ≡ true) (numbers_of root) → IsRooted before values (root_number root)
  rooted_by rowid values no_column is sound trees = cc
  rooted_by rowid values no_tree is sound trees = is
  rooted_by rowid values (at_page (negsuc n)) is sound trees = cc
  rooted_by rowid values (at_page (pos zero)) is sound trees =
      let range : is_in_range before 0 ≡ true = if_range (is_in_range before 0) rowid 0 refl sound in
      let low : 2 ≤ 0 = low_of_range 0 before.count range in absurd (omega arith)
  rooted_by rowid values (at_page (pos (suc n))) is sound trees = old_tree values (suc n) is (trees 0 0 (omega arith))

  sound_by : (row : Row) (values : List Datum) → columns row.payload ≡ Some values → is_sound (schema_fault before (rowid_or_0 row.rowid) (columns row.payload)) ≡ true
      → All (λ n. is_sound (root_part before n) ≡ true) (roots_of_row (columns row.payload)) → IsSoundRow before (schema_row row)
  sound_by row values reads sound trees = record {
    values = values;
    reads = reads;
    rooted = subst (λ n. IsRooted before values n) (sym (ap number_of reads))
        (rooted_by (rowid_or_0 row.rowid) values (root_of values) refl (ap (λ r. is_sound (schema_fault before (rowid_or_0 row.rowid) r)) (sym reads) ∙ sound)
        (subst (λ r. All (λ n. is_sound (root_part before n) ≡ true) (roots_of_row r)) reads trees));
  }

  same_default : (xs : List ℕ) (k d e : ℕ) → k < length xs → slice_index_or xs k d ≡ slice_index_or xs k e
  same_default [] k d e less = absurd (omega arith)
  same_default (x ∷ xs) zero d e less = refl
  same_default (x ∷ xs) (suc k) d e less = same_default xs k d e (omega arith)

  all_left : (P : ℕ → Type 0) (xs ys : List ℕ) → All P (xs ++ ys) → All P xs
  all_left P xs ys h k d less =
      All-contains P (xs ++ ys) (slice_index_or xs k d) h (Contains-append_left xs ys (slice_index_or xs k d) (k, less, same_default xs k (slice_index_or xs k d) d less))

  all_right : (P : ℕ → Type 0) (xs ys : List ℕ) → All P (xs ++ ys) → All P ys
  all_right P xs ys h k d less =
      All-contains P (xs ++ ys) (slice_index_or ys k d) h (Contains-append_right xs ys (slice_index_or ys k d) (k, less, same_default ys k (slice_index_or ys k d) d less))

  row_by : (row : Row) (rows : List Row) (r : Option (List Datum)) → columns row.payload ≡ r → is_some (columns row.payload) ≡ true
      → is_sound (schema_faults before (row ∷ rows)) ≡ true → All (λ n. is_sound (root_part before n) ≡ true) (roots (row ∷ rows))
      → (is_sound (schema_faults before rows) ≡ true → All (λ n. is_sound (root_part before n) ≡ true) (roots rows) → All (IsSoundRow before) (map schema_row rows))
      → All (IsSoundRow before) (map schema_row (row ∷ rows))
  row_by row rows None is read sound trees later = let no : is_some (columns row.payload) ≡ false = ap is_some is in cc
  row_by row rows (Some values) is read sound trees later =
      let one : List Finding = schema_fault before (rowid_or_0 row.rowid) (columns row.payload) in
      All-cons (IsSoundRow before) (schema_row row) (map schema_row rows)
      (sound_by row values is (sound_left one (schema_faults before rows) sound)
      (all_left (λ n. is_sound (root_part before n) ≡ true) (roots_of_row (columns row.payload)) (roots rows) trees))
      (later (sound_right one (schema_faults before rows) sound)
      (all_right (λ n. is_sound (root_part before n) ≡ true) (roots_of_row (columns row.payload)) (roots rows) trees))

  rows_by : (rows : List Row) → All (λ (row : Row). is_some (columns row.payload) ≡ true) rows → is_sound (schema_faults before rows) ≡ true
      → All (λ n. is_sound (root_part before n) ≡ true) (roots rows) → All (IsSoundRow before) (map schema_row rows)
  rows_by [] read sound trees = All-nil (IsSoundRow before)
  rows_by (row ∷ rows) read sound trees =
      row_by row rows (columns row.payload) refl (read 0 row (omega arith)) sound trees
      (λ later listed. rows_by rows (λ k d less. read (suc k) d (omega arith)) later listed)

  schema_faults_none : is_database before ≡ true → is_sound (schema_faults before (schema_rows before)) ≡ true
  schema_faults_none sound =
      let part : List Finding = tree_part before Table (free before) 1 in
      let whole : is_sound (part ++ schema_faults before (entries part)) ≡ true = schema_sound before sound in
      subst (λ (rows : List Row). is_sound (schema_faults before rows) ≡ true)
      (entries_alone before Table 1 (free before) (sound_left part (schema_faults before (entries part)) whole))
      (sound_right part (schema_faults before (entries part)) whole)

  pub rows_sound : is_database before ≡ true → (rows : List SchemaRow) → rows ≡ map schema_row (entries (schema_after before)) → All (IsSoundRow before) rows
  rows_sound sound rows are =
      All-same (IsSoundRow before) rows (map schema_row (schema_rows before)) (are ∙ ap (map schema_row) (database_schema before sound))
      (rows_by (schema_rows before) (database_recorded before sound) (schema_faults_none sound) (database_trees before sound))

  -- and they are the rows of the content
  kept_by : (row : Row) (read : Option (List Datum)) → item_of before (record { rowid = Some (rowid_or_0 row.rowid); payload = row.payload; page = 0 }) read ≡ item_of before row read
  kept_by row None = refl
  kept_by row (Some values) = refl

  items_by : (rows : List Row) → map (kept_item before) (map schema_row rows) ≡ map (λ row. item_of before row (columns row.payload)) rows
  items_by [] = refl
  items_by (row ∷ rows) =
      ap (λ item. item ∷ map (kept_item before) (map schema_row rows)) (kept_by row (columns row.payload))
      ∙ ap (λ l. item_of before row (columns row.payload) ∷ l) (items_by rows)

  pub items_kept : is_database before ≡ true → (rows : List SchemaRow) → rows ≡ map schema_row (entries (schema_after before))
      → map (kept_item before) rows ≡ map (λ row. item_of before row (columns row.payload)) (schema_rows before)
  items_kept sound rows are =
      ap (map (kept_item before)) (are ∙ ap (map schema_row) (database_schema before sound)) ∙ items_by (schema_rows before)
