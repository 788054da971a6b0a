-- The rows of the schema, as they are kept.
use Rattle.std.specs.Prelude.{◌≡◌, ℕ, Bool, List, [], ◌∷◌, ◌++◌, ◌==◌, map, length, Result, Ok, Err, if◌then◌else◌, ⊤}
use Rattle.std.specs.List.{Contains}
use Rattle.db_format.specs.Pages.{Pages, nothing}
use Rattle.db_format.specs.Record.{columns}
use Rattle.btree_model.specs.Finding.{Row, Finding, entries, faults}
use Rattle.btree_model.specs.Records.{record_fault}
use Rattle.btree_model.specs.Schema.{roots, rowid_or_0, schema_fault, schema_part}
use Rattle.btree_walk.specs.Causes.{IsAmong}
use Rattle.btree_walk.specs.declared.error.WalkError.{WalkError}
use Rattle.btree_walk.specs.declared.error.WalkError.TheVariants.{Defect, Source, OutOfMemory}
use Rattle.schema_map.specs.Part.{IsSound}
use Rattle.schema_map.specs.Root.{number_of}
use Rattle.schema_map.specs.declared.schema.SchemaRow.{SchemaRow}

-- an entry of the schema's tree as it is kept: the number of its root page, 0 where it has no tree, beside it
abbrev pub schema_row : Row → SchemaRow
schema_row row = record { rowid = rowid_or_0 row.rowid; root = number_of (columns row.payload); payload = row.payload }

-- the rows of a schema as they are kept, where it is read before any tree
abbrev pub schema_rows : Pages → List SchemaRow
schema_rows pages = map schema_row (entries (schema_part pages nothing))

-- the roots of the rows that have a tree, in order
abbrev pub tree_roots : List SchemaRow → List ℕ
tree_roots [] = []
tree_roots (row ∷ rows) = (if row.root == 0 then [] else row.root ∷ []) ++ tree_roots rows

-- the schema has no defect, and these are its rows
pub record IsSchema (all : List Finding) (old new : List Bool) (rows : List SchemaRow) : Type 0 where
  pub part : IsSound all old new (length rows)
  pub rows_are : rows ≡ map schema_row (entries all)
  pub roots_are : tree_roots rows ≡ roots (entries all)

-- what a walk of the schema came to
abbrev pub IsSchemaRead : {R : Type 0} → (Pages → ℕ → R → Type 0) → Pages → List Finding → List Bool → List Bool → Result (List SchemaRow) (WalkError R) → Type 0
IsSchemaRead refuses pages all old new (Ok rows) = IsSchema all old new rows
IsSchemaRead refuses pages all old new (Err error) = IsAmong refuses pages all error

-- the row has no defect, and is kept so
pub record IsKept (pages : Pages) (row : Row) (kept : SchemaRow) : Type 0 where
  pub recorded : record_fault row.page (columns row.payload) ≡ []
  pub rooted : schema_fault pages (rowid_or_0 row.rowid) (columns row.payload) ≡ []
  pub is : kept ≡ schema_row row

-- what reading a row came to: a defect is one of the row
abbrev pub IsRowRead : {R : Type 0} → Pages → Row → Result SchemaRow (WalkError R) → Type 0
IsRowRead pages row (Ok kept) = IsKept pages row kept
IsRowRead pages row (Err (Defect d)) =
    Contains (faults (record_fault row.page (columns row.payload) ++ schema_fault pages (rowid_or_0 row.rowid) (columns row.payload))) d
IsRowRead pages row (Err (Source refusal)) = ⊥
IsRowRead pages row (Err OutOfMemory) = ⊤
