-- The trees of a made database.
use Rattle.std.specs.Prelude.{ℕ, pos, List, [], ◌∷◌, codes, map, Some, None}
use Rattle.std.specs.List.{range_with_len}
use Rattle.db_format.specs.Value.{Datum}
use Rattle.db_format.specs.Value.Datum.{int, text}
use Rattle.db_format.specs.Row.{record_bytes}
use Rattle.btree_page.specs.declared.kind.Family.{Family}
use Rattle.btree_page.specs.declared.kind.Family.TheVariants.{Table, Index}
use Rattle.btree_model.specs.Content.{Entry}
use Rattle.db_maker.specs.declared.part.Part.{Part}
use Rattle.db_maker.specs.declared.part.Part.TheVariants.{Items, Names, Codes}
use Rattle.db_maker.specs.Rows.{code_values, item_values, name_values}

abbrev pub family_in : Part → Family
family_in Items = Table
family_in Names = Index
family_in Codes = Index

-- entry i of a tree
abbrev pub entry_in : Part → ℕ → Entry
entry_in Items i = record { rowid = Some (pos i); payload = record_bytes (item_values i) }
entry_in Names i = record { rowid = None; payload = record_bytes (name_values i) }
entry_in Codes i = record { rowid = None; payload = record_bytes (code_values i) }

-- those from 1 to so many
abbrev pub entries_in : Part → ℕ → List Entry
entries_in part rows = map (entry_in part) (range_with_len 1 rows)

-- a row of the schema: type, name, table, root page and SQL
abbrev pub schema_values : List ℕ → List ℕ → List ℕ → ℕ → List ℕ → List Datum
schema_values kind name table root sql = text kind ∷ text name ∷ text table ∷ int (pos root) ∷ text sql ∷ []

-- that of a tree with this root page
abbrev pub part_values : Part → ℕ → List Datum
part_values Items root =
    schema_values (codes "table") (codes "items") (codes "items") root
    (codes "CREATE TABLE items(id INTEGER PRIMARY KEY, name TEXT, data BLOB, size INTEGER)")
part_values Names root = schema_values (codes "index") (codes "items_name") (codes "items") root (codes "CREATE INDEX items_name ON items(name)")
part_values Codes root =
    schema_values (codes "table") (codes "codes") (codes "codes") root (codes "CREATE TABLE codes(code TEXT PRIMARY KEY, item INTEGER) WITHOUT ROWID")

-- that of the view, which has no tree
abbrev pub view_values : List Datum
view_values = schema_values (codes "view") (codes "names") (codes "names") 0 (codes "CREATE VIEW names AS SELECT name FROM items")

abbrev pub schema_entry : ℕ → List Datum → Entry
schema_entry rowid values = record { rowid = Some (pos rowid); payload = record_bytes values }

-- the schema, where the three trees have these roots
abbrev pub schema_entries : ℕ → ℕ → ℕ → List Entry
schema_entries items names codes_root =
    schema_entry 1 (part_values Items items) ∷ schema_entry 2 (part_values Names names) ∷ schema_entry 3 (part_values Codes codes_root)
    ∷ schema_entry 4 view_values ∷ []
