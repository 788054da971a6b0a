-- Pages of a tree (Database File Format, section 1.6). The page header begins at byte 100 of page 1, and at byte
-- 0 of every other page.
--
-- | offset | length | field                                                       |
-- | 0      | 1      | kind                                                        |
-- | 1      | 2      | first freeblock, not read                                   |
-- | 3      | 2      | count of cells                                              |
-- | 5      | 2      | start of the cells, not read                                |
-- | 7      | 1      | fragments, not read                                         |
-- | 8      | 4      | right child, on interior pages                              |
--
-- Then follows the array of cell offsets, two bytes each, in key order.
use Rattle.std.specs.Prelude.{ℕ, ◌+◌, ◌-◌, ◌*◌, ◌/◌, ◌&&◌, Bool, false, List, length, drop, map, Option, Some, None, Result, Ok, Err, is_none, nat_le, nat_lt, if◌then◌else◌}
use Rattle.std.specs.List.{filter_map, position_or_len, range_with_len}
use Rattle.db_format.specs.Bytes.{u16_at, u32_at}
use Rattle.btree_page.specs.declared.kind.Family.{Family}
use Rattle.btree_page.specs.declared.kind.Kind.{Kind}
use Rattle.btree_page.specs.declared.page.PageFault.{PageFault}
use Rattle.btree_page.specs.declared.page.PageFault.TheVariants.{BadKind, BadCell}
use Rattle.btree_page.specs.Cell.{Cell, cell_of}
use Rattle.btree_page.specs.Kind.{family_of, header_at, is_interior, kind_at, same_family}

-- a page that can be read: its cells in key order and, of an interior page, its right child
pub record Node : Type 0 where
  pub kind : Kind
  pub cells : List Cell
  pub right : Option ℕ

-- the length of the page header
abbrev pub header_len : Kind → ℕ
header_len kind = if is_interior kind then 12 else 8

abbrev pub cell_count : List ℕ → ℕ → ℕ
cell_count bytes header = u16_at bytes (header + 3)

-- where the array of cell offsets begins
abbrev pub array_start : Kind → ℕ → ℕ
array_start kind header = header + header_len kind

-- and where it ends
abbrev pub array_end : Kind → List ℕ → ℕ → ℕ
array_end kind bytes header = array_start kind header + 2 * cell_count bytes header

-- the cell with this index; none where its offset lies before the end of the array or not on the page, or no cell is there
abbrev pub cell_at : Kind → List ℕ → ℕ → ℕ → Option Cell
cell_at kind bytes header index =
    let offset = u16_at bytes (array_start kind header + 2 * index) in
    if nat_le (array_end kind bytes header) offset && nat_lt offset (length bytes)
    then cell_of kind (length bytes) (drop offset bytes)
    else None

-- what each offset leads to
abbrev pub cells_at : Kind → List ℕ → ℕ → List (Option Cell)
cells_at kind bytes header = map (cell_at kind bytes header) (range_with_len 0 (cell_count bytes header))

abbrev pub right_at : Kind → List ℕ → ℕ → Option ℕ
right_at kind bytes header = if is_interior kind then Some (u32_at bytes (header + 8)) else None

-- what a page of this kind has
abbrev pub node_at : Kind → List ℕ → ℕ → Node
node_at kind bytes header = record {
  kind = kind;
  cells = filter_map (λ cell. cell) (cells_at kind bytes header);
  right = right_at kind bytes header;
}

-- the least index that leads to no cell, or the count of cells
abbrev pub first_lost : Kind → List ℕ → ℕ → ℕ
first_lost kind bytes header = position_or_len is_none (cells_at kind bytes header)

-- A page of this kind, or the least bad index. Where the array passes the page's end, that is the first offset that does
-- not lie on the page.
abbrev pub read_kind : List ℕ → ℕ → Kind → Result Node PageFault
read_kind bytes header kind =
    if nat_lt (length bytes) (array_end kind bytes header)
    then Err (BadCell ((length bytes - array_start kind header) / 2))
    else if nat_lt (first_lost kind bytes header) (cell_count bytes header)
    then Err (BadCell (first_lost kind bytes header))
    else Ok (node_at kind bytes header)

abbrev pub read_any : List ℕ → ℕ → Option Kind → Result Node PageFault
read_any bytes header None = Err BadKind
read_any bytes header (Some kind) = read_kind bytes header kind

-- page n with these bytes, as a page of a tree
abbrev pub read_page : ℕ → List ℕ → Result Node PageFault
read_page n bytes = read_any bytes (header_at n) (kind_at n bytes)

abbrev pub is_of : Family → Option Kind → Bool
is_of family None = false
is_of family (Some kind) = same_family family (family_of kind)

-- as a page of a tree of this family: one of the other family is of a bad kind, whatever its cells
abbrev pub read_node : Family → ℕ → List ℕ → Result Node PageFault
read_node family n bytes = if is_of family (kind_at n bytes) then read_page n bytes else Err BadKind
