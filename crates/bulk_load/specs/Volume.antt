-- What pages cost, and what the open pages of a loader hold, in bytes.
use Rattle.std.specs.Prelude.{ℕ, ◌+◌, ◌*◌, List, [], ◌∷◌, length}
use Rattle.btree_page.specs.declared.kind.Kind.{Kind}
use Rattle.btree_page.specs.declared.kind.Kind.TheVariants.{IndexInterior, IndexLeaf, TableInterior, TableLeaf}
use Rattle.page_build.specs.Draft.{Draft}
use Rattle.page_build.specs.Written.{joined_cells}
use Rattle.bulk_load.specs.declared.pair.Pair.{Pair}
use Rattle.bulk_load.specs.declared.level.Level.{Level}
use Rattle.bulk_load.specs.declared.loader.Loader.{Loader}

-- what so many pages of this usable size cost: each of their bytes twice
abbrev pub price : ℕ → ℕ → ℕ
price usable pages = 2 * (usable * pages)

-- the bytes of its cells and their offsets
abbrev pub filled : Draft → ℕ
filled page = 2 * length page.cells + length (joined_cells page.cells)

-- the same of what waits
abbrev pub sizes : List Pair → ℕ
sizes [] = 0
sizes (pair ∷ pairs) = length pair.cell.items + 2 + sizes pairs

-- six for each byte: a page is closed only where these are more than its price
abbrev pub level_volume : Level → ℕ
level_volume level = 6 * (filled level.page + sizes level.waiting.items)

abbrev pub volumes : List Level → ℕ
volumes [] = 0
volumes (level ∷ levels) = level_volume level + volumes levels

-- of the leaf of a table half as much: the row that had no room pays the other half
abbrev pub leaf_volume : Kind → Level → ℕ
leaf_volume TableLeaf level = 3 * filled level.page
leaf_volume IndexLeaf level = level_volume level
leaf_volume TableInterior level = level_volume level
leaf_volume IndexInterior level = level_volume level

abbrev pub volume : Loader → ℕ
volume loader = leaf_volume loader.leaf.page.kind loader.leaf + volumes loader.levels.items
