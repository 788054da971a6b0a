-- The names of a schema that are near a name: they are this name but for the case of ASCII letters (Database File Format, section 2.6).
-- SQLite takes such names for one; `find` compares them byte for byte.
use Rattle.std.specs.Prelude.{ℕ, ◌==◌, not, List, [], ◌∷◌, take, filter_map, codes, Option, Some, None, if◌then◌else◌, Bool}
use Rattle.std.specs.Option.{option_map, option_and_then}
use Rattle.std.specs.Str.{bytes_eq, str_eq_ignore_ascii_case}
use Rattle.db_format.specs.Record.{columns}
use Rattle.db_format.specs.Value.{Datum}
use Rattle.db_format.specs.Value.Datum.{null, int, float, text, blob}
pub use Rattle.schema_map.specs.Schema.{schema_rows}
use Rattle.schema_map.specs.declared.schema.SchemaRow.{SchemaRow}
use Rattle.schema_names.specs.declared.kind.SchemaKind.{SchemaKind}
use Rattle.schema_names.specs.declared.kind.SchemaKind.TheVariants.{Table, Index, View, Trigger}
use Rattle.schema_names.specs.declared.near.NearName.{NearName}

-- the kind of this name
abbrev pub kind_named : List ℕ → Option SchemaKind
kind_named stored =
    if bytes_eq stored (codes "table") then Some Table
    else (if bytes_eq stored (codes "index") then Some Index
    else (if bytes_eq stored (codes "view") then Some View
    else (if bytes_eq stored (codes "trigger") then Some Trigger else None)))

-- what a first column says
abbrev pub schema_kind : Datum → Option SchemaKind
schema_kind null = None
schema_kind (int number) = None
schema_kind (float stored) = None
schema_kind (text stored) = kind_named stored
schema_kind (blob stored) = None

-- both are alike but for case
abbrev pub is_near : List ℕ → List ℕ → Bool
is_near name stored = str_eq_ignore_ascii_case stored name

-- the text of a value, where it is near
abbrev pub near_text : List ℕ → Datum → Option (List ℕ)
near_text name null = None
near_text name (int number) = None
near_text name (float stored) = None
near_text name (text stored) = if is_near name stored then Some stored else None
near_text name (blob stored) = None

-- a row with this root, 0 for none, and these first two columns
abbrev pub near_columns : List ℕ → ℕ → Datum → Datum → Option NearName
near_columns name root kind own =
    option_and_then (λ known. option_map (λ stored. record { kind = known; has_tree = not (root == 0); name = stored }) (near_text name own)) (schema_kind kind)

-- with these columns
abbrev pub near_row : List ℕ → ℕ → Option (List Datum) → Option NearName
near_row name root None = None
near_row name root (Some []) = None
near_row name root (Some (kind ∷ [])) = None
near_row name root (Some (kind ∷ (own ∷ rest))) = near_columns name root kind own

-- all near names of these rows, in order
abbrev pub all_near : List ℕ → List SchemaRow → List NearName
all_near name rows = filter_map (λ row. near_row name row.root (columns row.payload)) rows

-- the first ten of them
unfoldable pub near_names : List ℕ → List SchemaRow → List NearName
near_names name rows = take 10 (all_near name rows)
