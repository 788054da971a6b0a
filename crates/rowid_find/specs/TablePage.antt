-- Pages of a table: a leaf has rows alone, and an interior page keys alone, and a right child.
use Rattle.std.specs.Prelude.{◌≡◌, ◌⊎◌, ℕ, Bool, true, false, List, [], ◌∷◌, Some, None}
use Rattle.btree_page.specs.Cell.{Cell, table_leaf, table_interior, index_leaf, index_interior}
use Rattle.btree_page.specs.Page.{Node}

-- all cells are rows
abbrev pub are_rows : List Cell → Bool
are_rows [] = true
are_rows (table_leaf rowid stored ∷ cells) = are_rows cells
are_rows (table_interior left key ∷ cells) = false
are_rows (index_leaf stored ∷ cells) = false
are_rows (index_interior left stored ∷ cells) = false

-- all cells are keys
abbrev pub are_keys : List Cell → Bool
are_keys [] = true
are_keys (table_interior left key ∷ cells) = are_keys cells
are_keys (table_leaf rowid stored ∷ cells) = false
are_keys (index_leaf stored ∷ cells) = false
are_keys (index_interior left stored ∷ cells) = false

abbrev pub IsTablePage : Node → Type 0
IsTablePage page = ((are_rows page.cells ≡ true) × (page.right ≡ None)) ⊎ ((are_keys page.cells ≡ true) × ((child : ℕ) × (page.right ≡ Some child)))
