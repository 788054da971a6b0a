-- The records of a journal: Database File Format, section 3. A page size is in bytes, pages are numbered from 1.
--
-- | offset   | length | field                                 |
-- | 0        | 4      | the page's number                     |
-- | 4        | S      | the page's bytes, as they were stored |
-- | 4 + S    | 4      | checksum                              |
use Rattle.std.specs.Prelude.{ℕ, zero, suc, ◌+◌, ◌-◌, ◌*◌, ◌/◌, ◌%◌, Bool, not, ◌&&◌, ◌==◌, List, ◌++◌, length, take, drop, slice_index}
use Rattle.journal_format.specs.Bytes.{u32_at, u32_bytes}

-- the sum of the bytes that stand 200, 400, .. 200 * k before the end
abbrev pub sampled : ℕ → List ℕ → ℕ
sampled zero image = 0
sampled (suc k) image = sampled k image + slice_index image (length image - 200 * suc k)

-- the checksum: the nonce and each such byte but one at the start
abbrev pub sum_of : ℕ → List ℕ → ℕ
sum_of nonce image = (nonce + sampled ((length image - 1) / 200) image) % 4294967296

-- a page's number and the bytes that it had
pub record Record : Type 0 where
  pub page : ℕ
  pub image : List ℕ

-- the offset at which the headers say that a record stands, and the nonce of its segment
pub record Place : Type 0 where
  pub nonce : ℕ
  pub at : ℕ

-- the bytes that stand there: fewer where the file ends
abbrev pub record_bytes_at : ℕ → List ℕ → Place → List ℕ
record_bytes_at size journal place = take (size + 8) (drop place.at journal)

-- the page's number and the page in the bytes of a record
abbrev pub page_of : List ℕ → ℕ
page_of bytes = u32_at bytes 0

abbrev pub image_of : List ℕ → List ℕ
image_of bytes = take (length bytes - 8) (drop 4 bytes)

-- the number is not 0, and the checksum is the page's
abbrev pub is_sound_record : ℕ → List ℕ → Bool
is_sound_record nonce bytes = not (page_of bytes == 0) && u32_at bytes (length bytes - 4) == sum_of nonce (image_of bytes)

abbrev pub record_at : ℕ → List ℕ → Place → Record
record_at size journal place =
    record { page = page_of (record_bytes_at size journal place); image = image_of (record_bytes_at size journal place) }

-- the record is whole and sound
abbrev pub is_good : ℕ → List ℕ → Place → Bool
is_good size journal place =
    length (record_bytes_at size journal place) == size + 8 && is_sound_record place.nonce (record_bytes_at size journal place)

-- the bytes of a record
abbrev pub journal_record_bytes : ℕ → ℕ → List ℕ → List ℕ
journal_record_bytes nonce page image = u32_bytes page ++ image ++ u32_bytes (sum_of nonce image)
