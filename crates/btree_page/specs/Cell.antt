-- Cells of tree pages (Database File Format, section 1.6). Their bytes in order:
--
-- | cell           |                | length of the payload | rowid or key | payload     | overflow page              |
-- | table leaf     |                | varint                | varint       | local bytes | 4 bytes where not all local |
-- | table interior | 4: left child  |                       | varint       |             |                            |
-- | index leaf     |                | varint                |              | local bytes | 4 bytes where not all local |
-- | index interior | 4: left child  | varint                |              | local bytes | 4 bytes where not all local |
--
-- Each definition takes the bytes from where its part begins to the page's end.
use Rattle.std.specs.Prelude.{ℕ, ◌+◌, ℤ, List, length, take, drop, Option, Some, None, nat_le, if◌then◌else◌}
use Rattle.std.specs.Option.{option_and_then, option_map}
use Rattle.std.specs.Int.{w64, cast_signed}
use Rattle.db_format.specs.Bytes.{u32_at}
use Rattle.db_format.specs.Varint.{varint}
use Rattle.btree_page.specs.declared.kind.Family.{Family}
use Rattle.btree_page.specs.declared.kind.Family.TheVariants.{Table, Index}
use Rattle.btree_page.specs.declared.kind.Kind.{Kind}
use Rattle.btree_page.specs.declared.kind.Kind.TheVariants.{IndexInterior, TableInterior, IndexLeaf, TableLeaf}
use Rattle.btree_page.specs.Payload.{local_len, max_payload}

-- a payload as its cell has it: its length, the bytes in the cell, and the overflow page in which it goes on, or 0
pub record StoredCell : Type 0 where
  pub size : ℕ
  pub local : List ℕ
  pub first : ℕ

pub data Cell : Type 0 where
  table_leaf : ℤ → StoredCell → Cell
  table_interior : ℕ → ℤ → Cell
  index_leaf : StoredCell → Cell
  index_interior : ℕ → StoredCell → Cell

-- the length of the whole payload, 0 where there is none
abbrev pub payload_len : Cell → ℕ
payload_len (table_leaf rowid stored) = stored.size
payload_len (table_interior left key) = 0
payload_len (index_leaf stored) = stored.size
payload_len (index_interior left stored) = stored.size

-- the payload of this length whose local bytes begin here; none where they, or the overflow page's number, pass the end
abbrev pub stored_of : Family → ℕ → ℕ → List ℕ → Option StoredCell
stored_of family usable size bytes =
    let local = local_len family usable size in
    if nat_le size local
    then (if nat_le local (length bytes) then Some (record { size = size; local = take local bytes; first = 0 }) else None)
    else (if nat_le (local + 4) (length bytes)
    then Some (record { size = size; local = take local bytes; first = u32_at bytes local })
    else None)

-- the length of a payload, and what follows it; none where it is too long to be read
abbrev pub sized : List ℕ → Option (ℕ × List ℕ)
sized bytes = option_and_then (λ v. if nat_le v.0 max_payload then Some (v.0, drop v.1 bytes) else None) (varint bytes)

-- a rowid or key, and what follows it
abbrev pub keyed : List ℕ → Option (ℤ × List ℕ)
keyed bytes = option_map (λ v. (cast_signed w64 v.0, drop v.1 bytes)) (varint bytes)

-- the left child, and what follows it
abbrev pub childed : List ℕ → Option (ℕ × List ℕ)
childed bytes = if nat_le 4 (length bytes) then Some (u32_at bytes 0, drop 4 bytes) else None

-- the cell of a page of this kind and usable size that begins here; none where it does not end on the page, or its payload
-- is too long to be read
abbrev pub cell_of : Kind → ℕ → List ℕ → Option Cell
cell_of TableLeaf usable bytes =
    option_and_then (λ size. option_and_then (λ key. option_map (λ stored. table_leaf key.0 stored)
    (stored_of Table usable size.0 key.1)) (keyed size.1)) (sized bytes)
cell_of TableInterior usable bytes =
    option_and_then (λ left. option_map (λ key. table_interior left.0 key.0) (keyed left.1)) (childed bytes)
cell_of IndexLeaf usable bytes =
    option_and_then (λ size. option_map (λ stored. index_leaf stored) (stored_of Index usable size.0 size.1)) (sized bytes)
cell_of IndexInterior usable bytes =
    option_and_then (λ left. option_and_then (λ size. option_map (λ stored. index_interior left.0 stored)
    (stored_of Index usable size.0 size.1)) (sized left.1)) (childed bytes)
