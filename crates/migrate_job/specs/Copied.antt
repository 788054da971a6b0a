-- A schema that is written anew, with the new roots of its trees.
use Rattle.std.specs.Prelude.{◌+◌, ◌^◌, ℕ, zero, suc, ◌≡◌, ◌≤◌, ◌<◌, pos, true, List, [], ◌∷◌, ◌++◌, take, drop, length, map, sum, Option, Some, None, unwrap_or}
use Rattle.std.specs.List.{list_all}
use Rattle.db_format.specs.Pages.{Pages, nothing}
use Rattle.db_format.specs.Record.{columns}
use Rattle.db_format.specs.Row.{record_bytes}
use Rattle.db_format.specs.Value.{Datum}
use Rattle.db_format.specs.Value.Datum.{int}
use Rattle.btree_model.specs.Content.{Entry, entry_of}
use Rattle.btree_model.specs.Finding.{is_sound}
use Rattle.btree_model.specs.Schema.{at_page, no_tree, root_of}
use Rattle.btree_model.specs.Tree.{root_family, tree_walk}
use Rattle.btree_page.specs.Payload.{max_payload}
use Rattle.bulk_load.specs.Bound.{chain_pages, tree_pages}
use Rattle.bulk_load.specs.Found.{HasTree, is_record}
use Rattle.bulk_load.specs.Out.{Faults}
use Rattle.bulk_load.specs.Own.{between, only}
use Rattle.bulk_load.specs.declared.error.LoadError.TheVariants.{RowidOrder, Out, OutOfMemory, TooDeep}
use Rattle.bulk_load.specs.Out.{HasCause}
use Rattle.migrate_job.specs.Copying.{migrate_load_error}
use Rattle.migrate_job.specs.declared.error.MigrateError.{MigrateError}
use Rattle.migrate_job.specs.declared.error.MigrateError.TheVariants.{TooManyPages, OutOfMemory as NoMemory}
use Rattle.migrate_job.specs.declared.rows.RowsError.{RowsError}
use Rattle.migrate_job.specs.declared.rows.RowsError.TheVariants.{TooLong, Load}
use Rattle.schema_map.specs.Alone.{tree_rows}
use Rattle.schema_map.specs.declared.schema.SchemaRow.{SchemaRow}

-- ---- the rows

-- the values of a row with another root page, its fourth column
abbrev pub row_values : ℕ → List Datum → List Datum
row_values root values = take 3 values ++ int (pos root) ∷ drop 4 values

-- the values of a payload, none where it is no record
abbrev pub values_of_payload : List ℕ → List Datum
values_of_payload payload = unwrap_or (columns payload) []

-- a payload whose row named this page, 0 for none, where its tree has another root now
abbrev pub payload_with : List ℕ → ℕ → ℕ → List ℕ
payload_with payload zero new = payload
payload_with payload (suc old) new = record_bytes (row_values new (values_of_payload payload))

abbrev pub new_entry : SchemaRow → ℕ → Entry
new_entry row new = record { rowid = Some row.rowid; payload = payload_with row.payload row.root new }

-- the rows of the new schema, each with the new root of its tree
abbrev pub new_entries : List SchemaRow → List ℕ → List Entry
new_entries [] roots = []
new_entries (row ∷ rows) [] = []
new_entries (row ∷ rows) (root ∷ roots) = new_entry row root ∷ new_entries rows roots

-- a row that was written anew had five columns at least, and reads as its new values; 0 stands for one without a tree, which stays
abbrev pub IsRenamed : List ℕ → ℕ → ℕ → Type 0
IsRenamed payload zero new = Unit {0}
IsRenamed payload (suc old) new =
    (5 ≤ length (values_of_payload payload)) × (columns (record_bytes (row_values new (values_of_payload payload))) ≡ Some (row_values new (values_of_payload payload)))

abbrev pub AreRenamed : List SchemaRow → List ℕ → Type 0
AreRenamed [] roots = Unit {0}
AreRenamed (row ∷ rows) [] = Unit {0}
AreRenamed (row ∷ rows) (root ∷ roots) = IsRenamed row.payload row.root root × AreRenamed rows roots

-- why the rows were not loaded: all numbers were given, a count of failures rose, or there are as many pages as a tree that is too deep
-- has; what else it may be shows nothing
abbrev pub HasRowsCause : {S : Type 0} → (S → Pages) → (S → ℕ) → (S → Faults) → S → S → RowsError → Type 0
HasRowsCause pages limit faults old new TooLong = Unit {0}
HasRowsCause pages limit faults old new (Load RowidOrder) = Unit {0}
HasRowsCause pages limit faults old new (Load (Out why)) = HasCause pages limit faults old new why
HasRowsCause pages limit faults old new (Load OutOfMemory) = Unit {0}
HasRowsCause pages limit faults old new (Load TooDeep) = 2 ^ 28 ≤ (pages new).count

-- How rows that are not loaded stop the command, where there may be so many pages. The rows of a census are in order, and want of memory
-- stands for that they are not.
abbrev pub rows_error : ℕ → RowsError → Option MigrateError
rows_error limit TooLong = Some (TooManyPages limit)
rows_error limit (Load RowidOrder) = Some NoMemory
rows_error limit (Load (Out why)) = migrate_load_error (Out why)
rows_error limit (Load OutOfMemory) = Some NoMemory
rows_error limit (Load TooDeep) = None

-- ---- what is known of the old rows

-- the entries of the old tree with this root
abbrev pub old_entries : Pages → ℕ → List Entry
old_entries before root = map entry_of (tree_rows before root)

-- the row with these values names the tree, which has no defect, and whose entries are records
pub record IsOldTree (before : Pages) (values : List Datum) (root : ℕ) : Type 0 where
  pub named : root_of values ≡ at_page (pos root)
  pub sound : is_sound (tree_walk before (root_family root (before.page root)) nothing root) ≡ true
  pub records : list_all is_record (old_entries before root) ≡ true

-- the same, where 0 stands for no tree
abbrev pub IsRooted : Pages → List Datum → ℕ → Type 0
IsRooted before values zero = root_of values ≡ no_tree
IsRooted before values (suc n) = IsOldTree before values (suc n)

-- a row of the schema of a database without a defect
pub record IsSoundRow (before : Pages) (row : SchemaRow) : Type 0 where
  pub values : List Datum
  pub reads : columns row.payload ≡ Some values
  pub rooted : IsRooted before values row.root

-- ---- the trees

-- the old tree with this root has a new one, on all numbers between two counts; 0 stands for no tree, which takes no number
abbrev pub IsCopiedTree : Pages → Pages → ℕ → ℕ → ℕ → ℕ → Type 0
IsCopiedTree before pages low high zero new = (new ≡ 0) × (low ≡ high)
IsCopiedTree before pages low high (suc n) new =
    HasTree (only (between low high) pages) (root_family (suc n) (before.page (suc n))) new (old_entries before (suc n))

-- these are the new roots of the rows' trees, each on the numbers that it took: in all, those between two counts
abbrev pub AreCopied : Pages → Pages → ℕ → ℕ → List SchemaRow → List ℕ → Type 0
AreCopied before pages low high [] [] = low ≡ high
AreCopied before pages low high [] (root ∷ roots) = ⊥
AreCopied before pages low high (row ∷ rows) [] = ⊥
AreCopied before pages low high (row ∷ rows) (root ∷ roots) =
    (middle : ℕ) × (low ≤ middle) × IsCopiedTree before pages low middle row.root root × AreCopied before pages middle high rows roots

-- the pages of the new tree of the old one with this root at most, with its overflow pages; 0 stands for no tree
abbrev pub tree_most : Pages → ℕ → ℕ → ℕ
tree_most before usable zero = 0
tree_most before usable (suc n) =
    let family = root_family (suc n) (before.page (suc n)) in
    tree_pages family usable (old_entries before (suc n)) + chain_pages family usable (old_entries before (suc n))

-- the pages of all trees of these rows at most
abbrev pub trees_most : Pages → ℕ → List SchemaRow → ℕ
trees_most before usable rows = sum (map (λ row. tree_most before usable row.root) rows)

-- a row that is written anew is longer than a payload may be
pub record HasLongRow (rows : List SchemaRow) (roots : List ℕ) : Type 0 where
  pub earlier : List Entry
  pub entry : Entry
  pub later : List Entry
  pub parts : new_entries rows roots ≡ earlier ++ entry ∷ later
  pub long : max_payload < length entry.payload
