-- What it says that no index differs: the entries of each that is checked are those of the rows of its table, one for one.
use Rattle.std.specs.Prelude.{◌≡◌, List, [], ◌∷◌}
use Rattle.std.specs.List.{All}
use Rattle.db_format.specs.Pages.{Pages, nothing}
use Rattle.btree_page.specs.declared.kind.Family.TheVariants.{Table, Index}
use Rattle.btree_model.specs.Finding.{entries}
use Rattle.btree_model.specs.Tree.{tree_walk}
use Rattle.index_check.specs.Agree.{IsOneForOne, owners, rowids}
use Rattle.index_check.specs.declared.agreement.Agreement.{Agreement}
use Rattle.index_report.specs.Report.{row_verdicts, values_in}
use Rattle.index_report.specs.Verdicts.{column, table_named}
use Rattle.index_report.specs.declared.verdict.Verdict.TheVariants.{Checked}
use Rattle.schema_map.specs.declared.schema.SchemaRow.{SchemaRow}

-- where the index of this row of the schema is checked, each row of its table has one entry, and each entry a row
abbrev pub IsOneByOne : Pages → List SchemaRow → SchemaRow → Type 0
IsOneByOne pages rows row =
    (found : Agreement) → row_verdicts pages rows row ≡ Checked found ∷ []
    → IsOneForOne (rowids (entries (tree_walk pages Table nothing (table_named rows (column (values_in row.payload) 2)))))
    (owners (entries (tree_walk pages Index nothing row.root)))

-- that holds of all indexes of the schema
abbrev pub AreOneByOne : Pages → List SchemaRow → Type 0
AreOneByOne pages rows = All (IsOneByOne pages rows) rows
