-- Cells and steps in code, as the definitions have them.
use Rattle.std.specs.Prelude.{Option, Some, None}
use Rattle.btree_page.specs.declared.cell.Cell.{Cell as CodeCell}
use Rattle.btree_page.specs.declared.cell.Cell.TheVariants.{TableLeaf, TableInterior, IndexLeaf, IndexInterior}
use Rattle.btree_page.specs.declared.payload.Payload.{Payload}
use Rattle.btree_page.specs.declared.step.Step.{Step as CodeStep}
use Rattle.btree_page.specs.declared.step.Step.TheVariants.{Child, Key, Entry, End}
use Rattle.btree_page.specs.Cell.{Cell, StoredCell, table_leaf, table_interior, index_leaf, index_interior}
use Rattle.btree_page.specs.Step.{Step, child, divider, entry}

-- a payload in code
abbrev pub payload_shown : Payload → StoredCell
payload_shown payload = record { size = payload.length; local = payload.local.now; first = payload.first }

-- a cell in code
abbrev pub cell_shown : CodeCell → Cell
cell_shown (TableLeaf rowid length local first) = table_leaf rowid (record { size = length; local = local.now; first = first })
cell_shown (TableInterior left key) = table_interior left key
cell_shown (IndexLeaf length local first) = index_leaf (record { size = length; local = local.now; first = first })
cell_shown (IndexInterior left length local first) =
    index_interior left (record { size = length; local = local.now; first = first })

-- a step in code, none at the end of the page
abbrev pub step_shown : CodeStep → Option Step
step_shown (Child page) = Some (child page)
step_shown (Key key) = Some (divider key)
step_shown (Entry rowid length local first) = Some (entry rowid (record { size = length; local = local.now; first = first }))
step_shown End = None
