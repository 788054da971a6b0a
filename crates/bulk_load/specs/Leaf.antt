-- The open leaf of a table after room was made on it.
use Rattle.std.specs.Prelude.{ℕ, ℤ, List, [], ◌++◌, Option, Some, None}
use Rattle.btree_page.specs.declared.kind.Family.TheVariants.{Table}
use Rattle.btree_page.specs.Cell.{Cell}
use Rattle.db_format.specs.Pages.{Pages}
use Rattle.btree_page.specs.Step.{divider, steps}
use Rattle.btree_model.specs.Content.{Entry}
use Rattle.load_model.specs.Open.{Open, at_height}
use Rattle.load_model.specs.Stands.{OpenPagesStand}
use Rattle.page_build.specs.Draft.{Draft}
use Rattle.bulk_load.specs.Close.{HasCells}
use Rattle.bulk_load.specs.Settle.{two}

-- the leaf is as it was; or it was put, with the last rowid behind it, and is empty
abbrev pub HasCellRoom : Pages → Draft → ℕ → ℤ → List Cell → List Open → List Entry → Option ℕ → Type 0
HasCellRoom pages leaf usable k cells front pushed None = HasCells leaf usable cells × OpenPagesStand pages Table (Some k) (front ++ at_height 0 (steps cells None)) pushed
HasCellRoom pages leaf usable k cells front pushed (Some m) = HasCells leaf usable [] × OpenPagesStand pages Table (Some k) (front ++ two 1 m (divider k)) pushed
