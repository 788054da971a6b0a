-- What a level of open pages does with a child, and the leaf of an index with an entry.
use Rattle.std.specs.Prelude.{ℕ, suc, ◌+◌, ◌*◌, ◌≤◌, ◌≡◌, ℤ, pos, Bool, true, false, List, [], ◌∷◌, ◌++◌, drop, length, Option, Some, None}
use Rattle.btree_page.specs.declared.kind.Kind.{Kind}
use Rattle.btree_page.specs.declared.kind.Kind.TheVariants.{IndexInterior, TableInterior, IndexLeaf, TableLeaf}
use Rattle.btree_page.specs.Cell.{Cell, table_interior, index_leaf, index_interior}
use Rattle.db_format.specs.Pages.{Pages}
use Rattle.btree_page.specs.Step.{Step, child, divider, entry as cell, steps}
use Rattle.btree_model.specs.Content.{Entry}
use Rattle.load_model.specs.Open.{Open, at_height}
use Rattle.load_model.specs.Stands.{OpenPagesStand}
use Rattle.page_build.specs.Written.{IsCellWritten, four_bytes}
use Rattle.btree_page.specs.Kind.{family_of}
use Rattle.page_build.specs.Draft.{Draft}
use Rattle.bulk_load.specs.declared.pair.Pair.{Pair}
use Rattle.bulk_load.specs.Close.{HasCells}

-- the cell has the four bytes of a child, and three as long with their offsets fit on a page of this usable size
pub record IsNamed (usable : ℕ) (pair : Pair) : Type 0 where
  pub least : 4 ≤ length pair.cell.items
  pub short : 3 * (length pair.cell.items + 2) + 12 ≤ usable

-- what may stand between two children: a key of a table, or an entry of an index
abbrev pub is_between : Step → Bool
is_between (child n) = false
is_between (divider k) = true
is_between (cell None stored) = true
is_between (cell (Some rowid) stored) = false

abbrev pub is_entry : Step → Bool
is_entry (child n) = false
is_entry (divider k) = false
is_entry (cell None stored) = true
is_entry (cell (Some rowid) stored) = false

-- what may stand behind a child of a page of this kind, and on a leaf of an index alone
abbrev pub may_stand : Kind → Step → Bool
may_stand TableLeaf s = false
may_stand IndexLeaf s = is_entry s
may_stand TableInterior s = is_between s
may_stand IndexInterior s = is_between s

-- the kind of the page above
abbrev pub up_kind : Kind → Kind
up_kind TableLeaf = TableInterior
up_kind IndexLeaf = IndexInterior
up_kind TableInterior = TableInterior
up_kind IndexInterior = IndexInterior

-- how many of a pair's bytes are not on a page of this kind: a leaf has no child
abbrev pub skip_of : Kind → ℕ
skip_of TableLeaf = 4
skip_of IndexLeaf = 4
skip_of TableInterior = 0
skip_of IndexInterior = 0

-- a pair on a page of this kind, as steps
abbrev pub on : Kind → ℕ → Step → List Step
on TableLeaf n s = s ∷ []
on IndexLeaf n s = s ∷ []
on TableInterior n s = child n ∷ s ∷ []
on IndexInterior n s = child n ∷ s ∷ []

-- the interior cell of this child and what stands behind it
abbrev pub interior_cell : ℕ → Step → Cell
interior_cell n (child m) = table_interior n (pos 0)
interior_cell n (divider k) = table_interior n k
interior_cell n (cell rowid stored) = index_interior n stored

-- the leaf cell of an entry
abbrev pub leaf_cell : Step → Cell
leaf_cell (child m) = table_interior m (pos 0)
leaf_cell (divider k) = table_interior 0 k
leaf_cell (cell rowid stored) = index_leaf stored

abbrev pub cell_on : Kind → ℕ → Step → Cell
cell_on TableLeaf n s = leaf_cell s
cell_on IndexLeaf n s = leaf_cell s
cell_on TableInterior n s = interior_cell n s
cell_on IndexInterior n s = interior_cell n s

-- a child and what stands behind it, as steps
abbrev pub two : ℕ → ℕ → Step → List Open
two h n s = record { height = h; leads = child n } ∷ record { height = h; leads = s } ∷ []

-- this stands behind the child of the pair, and behind whichever child its cell is made to name; on a leaf it stands alone
pub record IsPair (pair : Pair) (kind : Kind) (usable : ℕ) (s : Step) : Type 0 where
  pub may : may_stand kind s ≡ true
  pub names : pair.cell.items ≡ four_bytes pair.child ++ drop 4 pair.cell.items
  pub here : (n : ℕ) → IsCellWritten kind usable (drop (skip_of kind) (four_bytes n ++ drop 4 pair.cell.items)) (cell_on kind n s)
  pub up : (n : ℕ) → IsCellWritten (up_kind kind) usable (four_bytes n ++ drop 4 pair.cell.items) (interior_cell n s)

-- the pair is on the page, or the page is closed with its child
abbrev pub IsLevelSettled : Pages → Draft → Pair → ℕ → Kind → ℕ → List Cell → Step → ℕ → List Open → List Open → Option ℤ → List Entry → Bool → Type 0
IsLevelSettled pages page pair usable kind n cells s h front back last pushed false =
    HasCells page usable (cells ++ cell_on kind n s ∷ [])
    × OpenPagesStand pages (family_of kind) last (front ++ (at_height h (steps (cells ++ cell_on kind n s ∷ []) None) ++ back)) pushed
IsLevelSettled pages page pair usable kind n cells s h front back last pushed true =
    HasCells page usable [] × IsPair pair (up_kind kind) usable s
    × OpenPagesStand pages (family_of kind) last (front ++ (two (suc h) pair.child s ++ back)) pushed
