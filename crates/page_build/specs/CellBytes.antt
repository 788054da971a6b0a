-- Cells as they are written (Database File Format, section 1.6). Varints are the shortest.
use Rattle.std.specs.Prelude.{ℕ, ◌≡◌, ◌≤◌, ◌==◌, nat_le, FitsSigned, List, [], ◌++◌, length, if◌then◌else◌}
use Rattle.std.specs.Int.{w64, cast_unsigned}
use Rattle.db_format.specs.Varint.{varint_bytes}
use Rattle.btree_page.specs.declared.kind.Family.{Family}
use Rattle.btree_page.specs.declared.kind.Family.TheVariants.{Table, Index}
use Rattle.btree_page.specs.declared.kind.Kind.{Kind}
use Rattle.btree_page.specs.declared.kind.Kind.TheVariants.{IndexInterior, TableInterior, IndexLeaf, TableLeaf}
use Rattle.btree_page.specs.Cell.{Cell, StoredCell, table_leaf, table_interior, index_leaf, index_interior}
use Rattle.btree_page.specs.Payload.{local_len, max_payload}
use Rattle.page_build.specs.Written.{four_bytes}

-- the kind of the pages on which such a cell stands
abbrev pub kind_of_cell : Cell → Kind
kind_of_cell (table_leaf rowid stored) = TableLeaf
kind_of_cell (table_interior left key) = TableInterior
kind_of_cell (index_leaf stored) = IndexLeaf
kind_of_cell (index_interior left stored) = IndexInterior

-- the local bytes of a payload, and the overflow page in which it goes on
abbrev pub stored_bytes : StoredCell → List ℕ
stored_bytes stored = stored.local ++ (if stored.first == 0 then [] else four_bytes stored.first)

abbrev pub cell_bytes : Cell → List ℕ
cell_bytes (table_leaf rowid stored) =
    varint_bytes stored.size ++ (varint_bytes (cast_unsigned w64 rowid) ++ stored_bytes stored)
cell_bytes (table_interior left key) = four_bytes left ++ varint_bytes (cast_unsigned w64 key)
cell_bytes (index_leaf stored) = varint_bytes stored.size ++ stored_bytes stored
cell_bytes (index_interior left stored) = four_bytes left ++ (varint_bytes stored.size ++ stored_bytes stored)

-- a payload that may be read, as a cell on a page of this family and usable size has it
pub record IsStoredOn (family : Family) (usable : ℕ) (stored : StoredCell) : Type 0 where
  pub size : stored.size ≤ max_payload
  pub local : length stored.local ≡ local_len family usable stored.size
  -- it goes on exactly where bytes are missing
  pub whole : (stored.first == 0) ≡ nat_le stored.size (length stored.local)

-- the payload of a cell, if it has one, is as a page of this usable size has it
abbrev pub IsFor : ℕ → Cell → Type 0
IsFor usable (table_leaf rowid stored) = IsStoredOn Table usable stored
IsFor usable (table_interior left key) = Unit {0}
IsFor usable (index_leaf stored) = IsStoredOn Index usable stored
IsFor usable (index_interior left stored) = IsStoredOn Index usable stored

-- its rowid or key has 64 bits
abbrev pub IsRanged : Cell → Type 0
IsRanged (table_leaf rowid stored) = FitsSigned w64 rowid
IsRanged (table_interior left key) = FitsSigned w64 key
IsRanged (index_leaf stored) = Unit {0}
IsRanged (index_interior left stored) = Unit {0}
