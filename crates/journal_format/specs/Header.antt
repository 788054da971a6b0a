-- The header of a segment, by its bytes: Database File Format, section 3. Offsets are in bytes.
--
-- | offset | length | field                                                                |
-- | 0      | 8      | magic                                                                        |
-- | 8      | 4      | count of records; ffffffff: as many whole ones as the file holds     |
-- | 12     | 4      | nonce of the checksums                                               |
-- | 16     | 4      | initial size of the database, in pages                               |
-- | 20     | 4      | sector size, in bytes                                                |
-- | 24     | 4      | page size, in bytes                                                  |
use Rattle.std.specs.Prelude.{ℕ, ◌≡◌, Bool, ◌&&◌, ◌||◌, ◌==◌, nat_le, List, [], ◌∷◌, ◌++◌, length, take, drop, bytes_eq}
use Rattle.journal_format.specs.declared.header.SegmentHeader.{SegmentHeader}
use Rattle.journal_format.specs.Bytes.{u32_at, u32_bytes}

-- d9 d5 05 f9 20 a1 63 d7
abbrev pub journal_magic : List ℕ
journal_magic = 217 ∷ 213 ∷ 5 ∷ 249 ∷ 32 ∷ 161 ∷ 99 ∷ 215 ∷ []

-- 28 bytes or more, of which the first 8 are the magic
abbrev pub is_header : List ℕ → Bool
is_header bytes = nat_le 28 (length bytes) && bytes_eq (take 8 bytes) journal_magic

-- the bytes of a header that stands at this offset of a journal: fewer where the file ends
abbrev pub head_at : ℕ → List ℕ → List ℕ
head_at at journal = take 28 (drop at journal)

-- a segment begins there
abbrev pub has_header : ℕ → List ℕ → Bool
has_header at journal = is_header (head_at at journal)

-- its fields
abbrev pub count_at : ℕ → List ℕ → ℕ
count_at at journal = u32_at (head_at at journal) 8

abbrev pub nonce_at : ℕ → List ℕ → ℕ
nonce_at at journal = u32_at (head_at at journal) 12

abbrev pub initial_at : ℕ → List ℕ → ℕ
initial_at at journal = u32_at (head_at at journal) 16

abbrev pub sector_at : ℕ → List ℕ → ℕ
sector_at at journal = u32_at (head_at at journal) 20

abbrev pub page_size_at : ℕ → List ℕ → ℕ
page_size_at at journal = u32_at (head_at at journal) 24

-- the sector sizes: the powers of two from 32 to 65,536
abbrev pub is_sector : ℕ → Bool
is_sector n =
    n == 32 || n == 64 || n == 128 || n == 256 || n == 512 || n == 1024 || n == 2048 || n == 4096
    || n == 8192 || n == 16384 || n == 32768 || n == 65536

-- the 28 bytes of a header with these fields
abbrev pub journal_header_bytes : ℕ → ℕ → ℕ → ℕ → ℕ → List ℕ
journal_header_bytes count nonce initial sector page_size =
    journal_magic ++ u32_bytes count ++ u32_bytes nonce ++ u32_bytes initial ++ u32_bytes sector ++ u32_bytes page_size

-- the bytes have these fields
abbrev pub HasFields : List ℕ → SegmentHeader → Type 0
HasFields bytes header =
    (header.count ≡ u32_at bytes 8) × (header.nonce ≡ u32_at bytes 12) × (header.initial ≡ u32_at bytes 16)
    × (header.sector ≡ u32_at bytes 20) × (header.page_size ≡ u32_at bytes 24)
