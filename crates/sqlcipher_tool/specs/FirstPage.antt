-- Page 1 changed by itself (Database File Format, section 1.3): bytes stand at an offset of it, and the fields of the table follow the
-- change. All other pages stay as they are stored.
--
-- | offset | field             | becomes                 |
-- | 24     | change counter    | one more, modulo 2^32   |
-- | 28     | size in pages     | the count of pages      |
-- | 92     | version-valid-for | the new change counter  |
use Rattle.std.specs.Prelude.{◌≡◌, ◌≤◌, ◌+◌, ◌%◌, ◌^◌, ℕ, IsTrue, List, length, Some, Ok}
use Rattle.std.specs.Int.{w32, to_be_bytes}
use Rattle.cipher_profile.specs.declared.profile.Profile.{Profile}
use Rattle.db_format.specs.Bytes.{u32_at}
use Rattle.db_format.specs.Header.{header_read_as}
use Rattle.db_format.specs.declared.header.Header.{Header}
use Rattle.page_codec.specs.Page.{FileKeys, accepts, opened, salt_of}
use Rattle.pager.specs.Changed.{with_bytes}
use Rattle.pager.specs.Database.{count_of}
use Rattle.pager.specs.File.{page_stored}

-- the page with this number in the four bytes at an offset
abbrev pub with_field : ℕ → ℕ → List ℕ → List ℕ
with_field at value plain = with_bytes at (to_be_bytes w32 value) plain

-- the change counter after one more change
abbrev pub next_change : ℕ → ℕ
next_change change = (change + 1) % 2 ^ 32

-- page 1 of a file of so many pages, with these bytes at this offset and the fields of the table
abbrev pub changed_page : ℕ → List ℕ → ℕ → List ℕ → List ℕ
changed_page at bytes count plain =
    let change = next_change (u32_at plain 24) in
    with_field 92 change (with_field 28 count (with_field 24 change (with_bytes at bytes plain)))

-- Of the file `after`, page 1 has the salt of `before`, is the changed one and accepted, and every other page is stored as in `before`.
pub record IsFirstChanged (keys : FileKeys) (at : ℕ) (bytes : List ℕ) (before after : List ℕ) : Type 0 where
  pub count : ℕ
  pub was : count_of keys before ≡ Some count
  pub header : 100 ≤ length (opened keys 1 (page_stored keys before 1))
  pub is : count_of keys after ≡ Some count
  pub salt : salt_of after ≡ salt_of before
  pub first :
      opened keys 1 (page_stored keys after 1) ≡ changed_page at bytes count (opened keys 1 (page_stored keys before 1))
  pub accepted : IsTrue (accepts keys 1 (page_stored keys after 1))
  pub others : (n : ℕ) → 2 ≤ n → n ≤ count → page_stored keys after n ≡ page_stored keys before n

-- Bytes that may stand there: behind the first 16 and within the header, and so that no page 1 which is read by this profile is refused
-- for them.
pub record IsHarmless (profile : Profile) (at : ℕ) (bytes : List ℕ) : Type 0 where
  pub low : 16 ≤ at
  pub high : at + length bytes ≤ 92
  pub reads : (plain : List ℕ) (header : Header) → 100 ≤ length plain → header_read_as profile.reads_log plain profile.page_size profile.reserve ≡ Ok header
      → (other : Header) × (header_read_as profile.reads_log (with_bytes at bytes plain) profile.page_size profile.reserve ≡ Ok other)
