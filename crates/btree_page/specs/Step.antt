-- What a page of a tree leads to, in the order of a walk (Database File Format, section 1.6).
use Rattle.std.specs.Prelude.{ℕ, ℤ, ◌/◌, ◌%◌, ◌==◌, ◌&&◌, Bool, List, [], ◌∷◌, Option, Some, None, if◌then◌else◌}
use Rattle.btree_page.specs.Cell.{Cell, StoredCell, table_leaf, table_interior, index_leaf, index_interior}

pub data Step : Type 0 where
  -- the pages below this one
  child : ℕ → Step
  -- the key between two children of a table's page
  divider : ℤ → Step
  -- an entry of the tree, with its rowid in a table
  entry : Option ℤ → StoredCell → Step

-- A leaf gives its cells. An interior page of a table gives its children, left to right, with the keys between them; one of
-- an index gives child, cell, child and so on. The right child comes last.
abbrev pub steps : List Cell → Option ℕ → List Step
steps [] None = []
steps [] (Some right) = child right ∷ []
steps (table_leaf rowid stored ∷ cells) right = entry (Some rowid) stored ∷ steps cells right
steps (table_interior left key ∷ cells) right = child left ∷ divider key ∷ steps cells right
steps (index_leaf stored ∷ cells) right = entry None stored ∷ steps cells right
steps (index_interior left stored ∷ cells) right = child left ∷ entry None stored ∷ steps cells right

-- the step of a cell, of an interior page's the child first and then what follows it
abbrev pub cell_step : Cell → Bool → Step
cell_step (table_leaf rowid stored) second = entry (Some rowid) stored
cell_step (table_interior left key) second = if second then divider key else child left
cell_step (index_leaf stored) second = entry None stored
cell_step (index_interior left stored) second = if second then entry None stored else child left

-- the length of the whole payload of an entry, 0 where there is none
abbrev pub entry_len : Option Step → ℕ
entry_len None = 0
entry_len (Some (child page)) = 0
entry_len (Some (divider key)) = 0
entry_len (Some (entry rowid stored)) = stored.size

-- the cell of the step with this index, on a page that is interior or a leaf
abbrev pub cell_index : Bool → ℕ → ℕ
cell_index interior index = if interior then index / 2 else index

-- the step is the second of its cell
abbrev pub is_second : Bool → ℕ → Bool
is_second interior index = interior && index % 2 == 1
