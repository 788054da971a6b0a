-- The entries of a tree as records (Database File Format, section 2.1).
use Rattle.std.specs.Prelude.{ℕ, List, [], ◌∷◌, ◌++◌, Option, Some, None}
use Rattle.db_format.specs.declared.defect.Defect.TheVariants.{RecordFault}
use Rattle.db_format.specs.Pages.{Pages, Test}
use Rattle.db_format.specs.Record.{columns}
use Rattle.db_format.specs.Value.{Datum}
use Rattle.btree_page.specs.declared.kind.Family.{Family}
use Rattle.btree_model.specs.Finding.{Row, Finding, fault, entries}
use Rattle.btree_model.specs.Tree.{tree_walk}

abbrev pub record_fault : ℕ → Option (List Datum) → List Finding
record_fault n None = fault (RecordFault n) ∷ []
record_fault n (Some values) = []

-- the defects of the entries as records: the page of each payload that has no columns
abbrev pub record_faults : List Row → List Finding
record_faults [] = []
record_faults (row ∷ rows) = record_fault row.page (columns row.payload) ++ record_faults rows

-- a tree as a part: its walk, and its entries as records
abbrev pub tree_part : Pages → Family → Test → ℕ → List Finding
tree_part pages family taken root =
    let found = tree_walk pages family taken root in found ++ record_faults (entries found)
