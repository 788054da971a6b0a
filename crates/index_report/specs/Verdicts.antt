-- What is found of an index: its agreement with its table, or why it is not checked (Database File Format, sections 2.4 to 2.6).
use Rattle.std.specs.Prelude.{◌≡◌, ◌≢◌, ◌⊎◌, ℕ, ◌==◌, Bool, true, false, List, map, slice_index_or, codes, Option, Some, None, Result, Ok, Err, if◌then◌else◌}
use Rattle.std.specs.List.{Contains, find}
use Rattle.db_format.specs.Pages.{Pages, nothing}
use Rattle.db_format.specs.Value.{Datum}
use Rattle.db_format.specs.Value.Datum.{null, int, float, text, blob}
use Rattle.btree_page.specs.declared.kind.Family.{Family}
use Rattle.btree_page.specs.declared.kind.Family.TheVariants.{Table, Index}
use Rattle.btree_model.specs.Finding.{entries}
use Rattle.btree_model.specs.Records.{tree_part}
use Rattle.btree_model.specs.Tree.{root_family, tree_walk}
use Rattle.btree_walk.specs.Causes.{IsAmong}
use Rattle.btree_walk.specs.declared.error.WalkError.{WalkError}
use Rattle.index_check.specs.Agree.{owners, rowids}
use Rattle.index_check.specs.Checked.{agreement_of}
use Rattle.index_check.specs.declared.agreement.Agreement.{Agreement}
use Rattle.index_text.specs.Plain.{parse, reads_as_index}
use Rattle.rowid_find.specs.Table.{is_candidate, is_text}
use Rattle.schema_map.specs.declared.schema.SchemaRow.{SchemaRow}
use Rattle.index_report.specs.declared.verdict.Unchecked.TheVariants.{NoTree, NoTable, NoRowids, NotRead}
use Rattle.index_report.specs.declared.verdict.Verdict.{Verdict}
use Rattle.index_report.specs.declared.verdict.Verdict.TheVariants.{Unchecked, Checked}

-- a column of a schema row, NULL where there is none: type, name, table, root page and text, from 0 on
abbrev pub column : List Datum → ℕ → Datum
column values n = slice_index_or values n null

-- the schema row is that of an index
abbrev pub is_index : Option (List Datum) → Bool
is_index None = false
is_index (Some values) = is_text (codes "index") (column values 0)

-- an index with this text has an entry for each row: it was made for a UNIQUE or a PRIMARY KEY and has none, or its text is read
abbrev pub is_read : Datum → Bool
is_read null = true
is_read (int number) = false
is_read (float bytes) = false
is_read (text bytes) = reads_as_index (parse bytes)
is_read (blob bytes) = false

abbrev pub root_or_0 : Option SchemaRow → ℕ
root_or_0 None = 0
root_or_0 (Some row) = row.root

-- the root of the first table of this name that has a tree, 0 where there is none
abbrev pub named_root : List ℕ → List SchemaRow → ℕ
named_root name rows = root_or_0 (find (is_candidate name) rows)

-- the same of the name in a schema row
abbrev pub table_named : List SchemaRow → Datum → ℕ
table_named rows null = 0
table_named rows (int number) = 0
table_named rows (float bytes) = 0
table_named rows (text name) = named_root name rows
table_named rows (blob bytes) = 0

-- the entries of the index with the one root beside the rows of the table with the other
abbrev pub agreement : Pages → ℕ → ℕ → Agreement
agreement pages table index =
    agreement_of (rowids (entries (tree_walk pages Table nothing table))) (owners (entries (tree_walk pages Index nothing index)))

-- by the family of the table
abbrev pub beside : Pages → ℕ → List Datum → ℕ → Family → Verdict
beside pages root values table Table = if is_read (column values 4) then Checked (agreement pages table root) else Unchecked NotRead
beside pages root values table Index = Unchecked NoRowids

-- by the root of the table
abbrev pub of_table : Pages → ℕ → List Datum → ℕ → Verdict
of_table pages root values table =
    if table == 0 then Unchecked NoTable else beside pages root values table (root_family table (pages.page table))

-- by the family of its own tree
abbrev pub of_tree : Pages → List SchemaRow → ℕ → List Datum → Family → Verdict
of_tree pages rows root values Table = Unchecked NoTree
of_tree pages rows root values Index = of_table pages root values (table_named rows (column values 2))

-- what is found of the index whose schema row has this root, 0 for none, and these columns
abbrev pub verdict : Pages → List SchemaRow → ℕ → List Datum → Verdict
verdict pages rows root values =
    if root == 0 then Unchecked NoTree else of_tree pages rows root values (root_family root (pages.page root))

-- ---- what the code comes to

-- a walk of the tree with this root stopped so
abbrev pub IsTreeStop : {R : Type 0} → (Pages → ℕ → R → Type 0) → Pages → WalkError R → ℕ → Type 0
IsTreeStop refuses pages error root = IsAmong refuses pages (tree_part pages (root_family root (pages.page root)) nothing root) error

abbrev pub IsJudgedBeside : {R : Type 0} → (Pages → ℕ → R → Type 0) → Pages → ℕ → ℕ → List Datum → Result Verdict (WalkError R) → Type 0
IsJudgedBeside refuses pages table root values (Ok found) = found ≡ beside pages root values table (root_family table (pages.page table))
IsJudgedBeside refuses pages table root values (Err error) = IsTreeStop refuses pages error table ⊎ IsTreeStop refuses pages error root

-- a walk of the tree of the index or of the tree of a row stopped so
pub record IsRowStop {R : Type 0} (refuses : Pages → ℕ → R → Type 0) (pages : Pages) (rows : List SchemaRow) (root : ℕ) (error : WalkError R) : Type 0 where
  pub tree : ℕ
  pub some : tree ≢ 0
  pub listed : (tree ≡ root) ⊎ Contains (map (λ (row : SchemaRow). row.root) rows) tree
  pub stop : IsTreeStop refuses pages error tree

abbrev pub IsJudged : {R : Type 0} → (Pages → ℕ → R → Type 0) → Pages → List SchemaRow → ℕ → List Datum → Result Verdict (WalkError R) → Type 0
IsJudged refuses pages rows root values (Ok found) = found ≡ verdict pages rows root values
IsJudged refuses pages rows root values (Err error) = IsRowStop refuses pages rows root error
