-- How many pages a load takes at most.
use Rattle.std.specs.Prelude.{ℕ, ℤ, ◌+◌, ◌*◌, ◌/◌, min, nat_le, List, length, map, sum, Option, Some, None, if◌then◌else◌}
use Rattle.std.specs.Int.{w64, cast_unsigned}
use Rattle.btree_page.specs.Payload.{local_len}
use Rattle.btree_page.specs.declared.kind.Family.{Family}
use Rattle.btree_model.specs.Content.{Entry}
use Rattle.db_format.specs.Varint.{varint_size}
use Rattle.bulk_load.specs.Count.{overflow_pages}

-- how many bytes a rowid takes in a cell, none in an index
abbrev pub rowid_len : Option ℤ → ℕ
rowid_len None = 0
rowid_len (Some rowid) = varint_size (cast_unsigned w64 rowid)

-- the length of the leaf cell of an entry, with so many bytes of its payload local (Database File Format, section 1.6)
abbrev pub cell_len_with : Entry → ℕ → ℕ
cell_len_with entry local =
    varint_size (length entry.payload) + (rowid_len entry.rowid + (local + (if nat_le (length entry.payload) local then 0 else 4)))

abbrev pub cell_len : Family → ℕ → Entry → ℕ
cell_len family usable entry = cell_len_with entry (local_len family usable (length entry.payload))

-- what an entry counts: its leaf cell, and 6 bytes for its offset and a child
abbrev pub entry_weight : Family → ℕ → Entry → ℕ
entry_weight family usable entry = cell_len family usable entry + 6

abbrev pub weights : Family → ℕ → List Entry → ℕ
weights family usable entries = sum (map (entry_weight family usable) entries)

-- the overflow pages of these entries
abbrev pub chain_pages : Family → ℕ → List Entry → ℕ
chain_pages family usable entries = sum (map (λ entry. overflow_pages family usable (length entry.payload)) entries)

-- the pages of a tree of these entries at most, beside their overflow pages
abbrev pub tree_pages : Family → ℕ → List Entry → ℕ
tree_pages family usable entries = min (2 * length entries + 1) (3 * weights family usable entries / usable + 64)
