-- The schema: the table that has page 1 as its root (Database File Format, section 2.6).
use Rattle.std.specs.Prelude.{ℕ, zero, suc, ℤ, pos, negsuc, List, [], ◌∷◌, ◌++◌, Option, Some, None, if◌then◌else◌}
use Rattle.db_format.specs.declared.defect.Defect.TheVariants.{SchemaRow, RootFault}
use Rattle.db_format.specs.Pages.{Pages, Test}
use Rattle.db_format.specs.Record.{columns}
use Rattle.db_format.specs.Value.{Datum}
use Rattle.db_format.specs.Value.Datum.{null, int, float, text, blob}
use Rattle.btree_page.specs.declared.kind.Family.TheVariants.{Table}
use Rattle.btree_model.specs.Range.{is_in_range}
use Rattle.btree_model.specs.Finding.{Row, Finding, fault, entries}
use Rattle.btree_model.specs.Records.{tree_part}

-- what the fourth column of a schema row says
pub data Root : Type 0 where
  no_column : Root
  no_tree : Root
  at_page : ℤ → Root

abbrev pub root_of_value : Datum → Root
root_of_value null = no_tree
root_of_value (int (pos zero)) = no_tree
root_of_value (int (pos (suc n))) = at_page (pos (suc n))
root_of_value (int (negsuc n)) = at_page (negsuc n)
root_of_value (float bytes) = no_column
root_of_value (text bytes) = no_column
root_of_value (blob bytes) = no_column

-- the root page of a row with at least five columns
abbrev pub root_of : List Datum → Root
root_of (kind ∷ (name ∷ (table ∷ (root ∷ (sql ∷ more))))) = root_of_value root
root_of values = no_column

abbrev pub rowid_or_0 : Option ℤ → ℤ
rowid_or_0 None = pos 0
rowid_or_0 (Some rowid) = rowid

abbrev pub root_fault : Pages → ℤ → Root → List Finding
root_fault pages rowid no_column = fault (SchemaRow rowid) ∷ []
root_fault pages rowid no_tree = []
root_fault pages rowid (at_page (pos n)) = if is_in_range pages n then [] else fault (RootFault rowid) ∷ []
root_fault pages rowid (at_page (negsuc n)) = fault (RootFault rowid) ∷ []

abbrev pub schema_fault : Pages → ℤ → Option (List Datum) → List Finding
schema_fault pages rowid None = []
schema_fault pages rowid (Some values) = root_fault pages rowid (root_of values)

abbrev pub schema_faults : Pages → List Row → List Finding
schema_faults pages [] = []
schema_faults pages (row ∷ rows) = schema_fault pages (rowid_or_0 row.rowid) (columns row.payload) ++ schema_faults pages rows

-- the schema as a part: the table tree with root 1
abbrev pub schema_part : Pages → Test → List Finding
schema_part pages taken =
    let found = tree_part pages Table taken 1 in found ++ schema_faults pages (entries found)

abbrev pub numbers_of : Root → List ℕ
numbers_of no_column = []
numbers_of no_tree = []
numbers_of (at_page (pos n)) = n ∷ []
numbers_of (at_page (negsuc n)) = []

-- the roots of the schema rows that have a tree, in order
abbrev pub roots_of_row : Option (List Datum) → List ℕ
roots_of_row None = []
roots_of_row (Some values) = numbers_of (root_of values)

abbrev pub roots : List Row → List ℕ
roots [] = []
roots (row ∷ rows) = roots_of_row (columns row.payload) ++ roots rows
