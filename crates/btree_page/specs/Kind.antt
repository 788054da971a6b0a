-- Kinds of tree pages, by the first byte of the page header (Database File Format, section 1.6).
--
-- | byte | kind           | family |
-- | 2    | index interior | index  |
-- | 5    | table interior | table  |
-- | 10   | index leaf     | index  |
-- | 13   | table leaf     | table  |
use Rattle.std.specs.Prelude.{ℕ, Bool, true, false, List, Option, Some, None, ◌==◌, if◌then◌else◌}
use Rattle.db_format.specs.Bytes.{u8_at}
use Rattle.btree_page.specs.declared.kind.Family.{Family}
use Rattle.btree_page.specs.declared.kind.Family.TheVariants.{Table, Index}
use Rattle.btree_page.specs.declared.kind.Kind.{Kind}
use Rattle.btree_page.specs.declared.kind.Kind.TheVariants.{IndexInterior, TableInterior, IndexLeaf, TableLeaf}

abbrev pub kind_of : ℕ → Option Kind
kind_of byte =
    if byte == 2 then Some IndexInterior
    else if byte == 5 then Some TableInterior
    else if byte == 10 then Some IndexLeaf
    else if byte == 13 then Some TableLeaf
    else None

abbrev pub family_of : Kind → Family
family_of IndexInterior = Index
family_of TableInterior = Table
family_of IndexLeaf = Index
family_of TableLeaf = Table

abbrev pub is_interior : Kind → Bool
is_interior IndexInterior = true
is_interior TableInterior = true
is_interior IndexLeaf = false
is_interior TableLeaf = false

abbrev pub same_family : Family → Family → Bool
same_family Table Table = true
same_family Table Index = false
same_family Index Table = false
same_family Index Index = true

-- where the page header begins: page 1 begins with the database header
abbrev pub header_at : ℕ → ℕ
header_at n = if n == 1 then 100 else 0

-- the kind of page n with these bytes, or none
abbrev pub kind_at : ℕ → List ℕ → Option Kind
kind_at n bytes = kind_of (u8_at bytes (header_at n))
