-- The root pages of schema rows, as the code has them.
use Rattle.std.specs.Prelude.{ℕ, pos, negsuc, Option, Some, None, List, if◌then◌else◌}
use Rattle.db_format.specs.Pages.{Pages}
use Rattle.db_format.specs.Value.{Datum}
use Rattle.btree_model.specs.Range.{is_in_range}
use Rattle.btree_model.specs.Schema.{Root, root_of, no_column, no_tree, at_page}
use Rattle.schema_map.specs.declared.root.RootPage.{RootPage}
use Rattle.schema_map.specs.declared.root.RootPage.TheVariants.{Missing, NoTree, At, OutOfRange}

-- what the fourth column of a row says, in a database with these pages
abbrev pub root_shown : Pages → Root → RootPage
root_shown pages no_column = Missing
root_shown pages no_tree = NoTree
root_shown pages (at_page (pos n)) = if is_in_range pages n then At n else OutOfRange
root_shown pages (at_page (negsuc n)) = OutOfRange

-- the number of the root page, 0 where there is none
abbrev pub root_number : Root → ℕ
root_number no_column = 0
root_number no_tree = 0
root_number (at_page (pos n)) = n
root_number (at_page (negsuc n)) = 0

-- of the row with these columns
abbrev pub number_of : Option (List Datum) → ℕ
number_of None = 0
number_of (Some values) = root_number (root_of values)
