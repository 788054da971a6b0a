-- Pages of a tree as they are written (Database File Format, section 1.6). Each cell is given as its bytes, of which there are
-- four at least.
use Rattle.std.specs.Prelude.{ℕ, ◌≡◌, ◌+◌, ◌-◌, ◌*◌, ◌/◌, ◌%◌, Bool, nat_le, List, [], ◌∷◌, ◌++◌, length, Option, Some, None, replicate, if◌then◌else◌}
use Rattle.std.specs.List.{list_all}
use Rattle.btree_page.specs.declared.kind.Kind.{Kind}
use Rattle.btree_page.specs.declared.kind.Kind.TheVariants.{IndexInterior, TableInterior, IndexLeaf, TableLeaf}
use Rattle.btree_page.specs.Cell.{Cell, cell_of}
use Rattle.btree_page.specs.Kind.{is_interior}
use Rattle.btree_page.specs.Page.{header_len}

-- a cell takes four bytes at least
abbrev pub padded : List ℕ → List ℕ
padded cell = cell ++ replicate (4 - length cell) 0

abbrev pub are_long : List (List ℕ) → Bool
are_long cells = list_all (λ cell. nat_le 4 (length cell)) cells

-- the cells at the page's end, the first cell highest
abbrev pub joined_cells : List (List ℕ) → List ℕ
joined_cells [] = []
joined_cells (cell ∷ cells) = joined_cells cells ++ cell

abbrev pub two_bytes : ℕ → List ℕ
two_bytes n = n / 256 ∷ n % 256 ∷ []

abbrev pub four_bytes : ℕ → List ℕ
four_bytes n = two_bytes (n / 65536) ++ two_bytes (n % 65536)

-- where each cell begins, if the first ends at `end`
abbrev pub offsets : ℕ → List (List ℕ) → List ℕ
offsets end [] = []
offsets end (cell ∷ cells) = two_bytes (end - length cell) ++ offsets (end - length cell) cells

abbrev pub kind_byte : Kind → ℕ
kind_byte IndexInterior = 2
kind_byte TableInterior = 5
kind_byte IndexLeaf = 10
kind_byte TableLeaf = 13

-- kind, no freeblock, count of cells, start of content (65,536 as 0), no fragment
abbrev pub leaf_head : Kind → ℕ → ℕ → List ℕ
leaf_head kind count start =
    kind_byte kind ∷ 0 ∷ 0 ∷ count / 256 ∷ count % 256 ∷ start % 65536 / 256 ∷ start % 256 ∷ 0 ∷ []

-- on an interior page also the right child
abbrev pub page_head : Kind → ℕ → ℕ → ℕ → List ℕ
page_head kind count start right = leaf_head kind count start ++ (if is_interior kind then four_bytes right else [])

-- what the cells, their offsets and the page header take
abbrev pub used : ℕ → Kind → List (List ℕ) → ℕ
used header kind cells = header + header_len kind + 2 * length cells + length (joined_cells cells)

-- a page of this usable size, whose header stands behind `front`
abbrev pub page_bytes : ℕ → List ℕ → Kind → ℕ → List (List ℕ) → List ℕ
page_bytes usable front kind right cells =
    front ++ (page_head kind (length cells) (usable - length (joined_cells cells)) right
    ++ (offsets usable cells ++ (replicate (usable - used (length front) kind cells) 0 ++ joined_cells cells)))

-- on a page of this kind and usable size these bytes are read as this cell, whatever follows them
pub record IsCellWritten (kind : Kind) (usable : ℕ) (bytes : List ℕ) (cell : Cell) : Type 0 where
  pub reads : (rest : List ℕ) → cell_of kind usable (bytes ++ rest) ≡ Some cell

abbrev pub AreWritten : Kind → ℕ → List (List ℕ) → List Cell → Type 0
AreWritten kind usable [] [] = Unit {0}
AreWritten kind usable [] (cell ∷ cells) = ⊥
AreWritten kind usable (bytes ∷ more) [] = ⊥
AreWritten kind usable (bytes ∷ more) (cell ∷ cells) = IsCellWritten kind usable bytes cell × AreWritten kind usable more cells

-- the right child, as a page of this kind has it
abbrev pub right_child : Kind → ℕ → Option ℕ
right_child kind right = if is_interior kind then Some right else None
