-- The table of a name: of the rows of the schema that have this name, the first whose tree has rows with rowids (Database File
-- Format, section 2.6). The tree of an index, and that of a table without rowids, is passed over.
use Rattle.std.specs.Prelude.{◌≡◌, ◌⊎◌, ℕ, ◌==◌, ◌&&◌, not, Bool, true, false, List, [], ◌∷◌, codes, Option, Some, None, Result, Ok, Err, if◌then◌else◌, ⊤}
use Rattle.std.specs.List.{find}
use Rattle.std.specs.Str.{bytes_eq}
use Rattle.db_format.specs.declared.defect.Defect.TheVariants.{BadKind}
use Rattle.db_format.specs.Pages.{Pages, is_page, nothing}
use Rattle.db_format.specs.Record.{columns}
use Rattle.db_format.specs.Value.{Datum}
use Rattle.db_format.specs.Value.Datum.{null, int, float, text, blob}
use Rattle.btree_page.specs.Kind.{family_of, kind_at, same_family}
use Rattle.btree_page.specs.declared.kind.Family.TheVariants.{Index}
use Rattle.btree_page.specs.declared.kind.Kind.{Kind}
use Rattle.btree_model.specs.Finding.{is_sound}
use Rattle.btree_model.specs.Schema.{schema_part}
use Rattle.btree_walk.specs.Causes.{IsAmong}
use Rattle.btree_walk.specs.declared.error.WalkError.{WalkError}
use Rattle.btree_walk.specs.declared.error.WalkError.TheVariants.{Defect, Source, OutOfMemory}
pub use Rattle.schema_map.specs.Schema.{schema_rows}
use Rattle.schema_map.specs.declared.schema.SchemaRow.{SchemaRow}

-- what a schema says of a name
pub data Table : Type 0 where
  -- the table has this root
  at_root : ℕ → Table
  -- there is none
  no_table : Table
  -- of a row before it, the root page is not accepted, or is no page of a tree
  unaccepted : ℕ → Table
  no_kind : ℕ → Table

-- the value is this text, as its bytes are stored
abbrev pub is_text : List ℕ → Datum → Bool
is_text bytes null = false
is_text bytes (int number) = false
is_text bytes (float stored) = false
is_text bytes (text stored) = bytes_eq stored bytes
is_text bytes (blob stored) = false

-- the row with these columns is that of a table of this name
abbrev pub names_table : List ℕ → Option (List Datum) → Bool
names_table name None = false
names_table name (Some []) = false
names_table name (Some (kind ∷ [])) = false
names_table name (Some (kind ∷ (own ∷ rest))) = is_text (codes "table") kind && is_text name own

-- it has a tree besides
abbrev pub is_candidate : List ℕ → SchemaRow → Bool
is_candidate name row = not (row.root == 0) && names_table name (columns row.payload)

abbrev pub is_index : Option Kind → Bool
is_index None = false
is_index (Some kind) = same_family (family_of kind) Index

-- the tree with this root has entries without rowids
abbrev pub is_passed : Pages → ℕ → Bool
is_passed pages root = pages.accepts root && is_index (kind_at root (pages.page root))

abbrev pub is_tried : Pages → List ℕ → SchemaRow → Bool
is_tried pages name row = is_candidate name row && not (is_passed pages row.root)

abbrev pub kind_found : ℕ → Option Kind → Table
kind_found root None = no_kind root
kind_found root (Some kind) = at_root root

abbrev pub root_found : Pages → ℕ → Table
root_found pages root = if pages.accepts root then kind_found root (kind_at root (pages.page root)) else unaccepted root

abbrev pub row_found : Pages → Option SchemaRow → Table
row_found pages None = no_table
row_found pages (Some row) = root_found pages row.root

-- the first row of this name whose tree is not passed over
abbrev pub table_of : Pages → List ℕ → List SchemaRow → Table
table_of pages name rows = row_found pages (find (is_tried pages name) rows)

-- ---- what the code comes to

-- the source refused the root page of a row; where that is not accepted, the search ends there
pub record IsRootRefused {R : Type 0} (refuses : Pages → ℕ → R → Type 0) (pages : Pages) (found : Table) (refusal : R) : Type 0 where
  pub page : ℕ
  pub range : is_page pages page ≡ true
  pub refused : refuses pages page refusal
  pub listed : pages.accepts page ≡ false → found ≡ unaccepted page

abbrev pub IsTableStop : {R : Type 0} → (Pages → ℕ → R → Type 0) → Pages → Table → WalkError R → Type 0
IsTableStop refuses pages found (Defect defect) = (root : ℕ) × (found ≡ no_kind root) × (defect ≡ BadKind root)
IsTableStop refuses pages found (Source refusal) = IsRootRefused refuses pages found refusal
IsTableStop refuses pages found OutOfMemory = ⊤

-- the search of a list of rows
abbrev pub IsTableFound : {R : Type 0} → (Pages → ℕ → R → Type 0) → Pages → Table → Result (Option ℕ) (WalkError R) → Type 0
IsTableFound refuses pages found (Ok None) = found ≡ no_table
IsTableFound refuses pages found (Ok (Some root)) = found ≡ at_root root
IsTableFound refuses pages found (Err error) = IsTableStop refuses pages found error

-- what one row came to: whether it is the table, or what is wrong with its root page
abbrev pub IsRowTried : {R : Type 0} → (Pages → ℕ → R → Type 0) → Pages → List ℕ → SchemaRow → Result Bool (WalkError R) → Type 0
IsRowTried refuses pages name row (Ok true) = (is_tried pages name row ≡ true) × (root_found pages row.root ≡ at_root row.root)
IsRowTried refuses pages name row (Ok false) = is_tried pages name row ≡ false
IsRowTried refuses pages name row (Err (Defect defect)) =
    (is_tried pages name row ≡ true) × (root_found pages row.root ≡ no_kind row.root) × (defect ≡ BadKind row.root)
IsRowTried refuses pages name row (Err (Source refusal)) =
    (is_page pages row.root ≡ true) × refuses pages row.root refusal
    × (pages.accepts row.root ≡ false → (is_tried pages name row ≡ true) × (root_found pages row.root ≡ unaccepted row.root))
IsRowTried refuses pages name row (Err OutOfMemory) = ⊤

-- the schema has no defect, and its rows came to this; or a defect of the schema was met, or a refused page
pub record IsSearchedSchema {R : Type 0} (refuses : Pages → ℕ → R → Type 0) (pages : Pages) (name : List ℕ) (result : Result (Option ℕ) (WalkError R)) : Type 0 where
  pub sound : is_sound (schema_part pages nothing) ≡ true
  pub found : IsTableFound refuses pages (table_of pages name (schema_rows pages)) result

abbrev pub IsTableRead : {R : Type 0} → (Pages → ℕ → R → Type 0) → Pages → List ℕ → Result (Option ℕ) (WalkError R) → Type 0
IsTableRead refuses pages name (Ok root) = IsSearchedSchema refuses pages name (Ok root)
IsTableRead refuses pages name (Err error) = IsAmong refuses pages (schema_part pages nothing) error ⊎ IsSearchedSchema refuses pages name (Err error)
