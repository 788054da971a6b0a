-- The database header: the first 100 bytes of page 1 (Database File Format, section 1.3).
--
-- | offset | length | field                                 | rule in reading                         |
-- | 0      | 16     | magic: "SQLite format 3" and a zero   |                                         |
-- | 16     | 2      | page size, 1 means 65,536             | HeaderFault unless the file's           |
-- | 18     | 1      | write version                         | 2 is WalMode *, other than 1 HeaderFault |
-- | 19     | 1      | read version                          | 2 is WalMode *, other than 1 HeaderFault |
-- | 20     | 1      | reserve                               | HeaderFault unless the file's           |
-- | 21     | 1      | greatest payload fraction             | HeaderFault unless 64                   |
-- | 22     | 1      | least payload fraction                | HeaderFault unless 32                   |
-- | 23     | 1      | leaf payload fraction                 | HeaderFault unless 32                   |
-- | 24     | 4      | change counter                        |                                         |
-- | 28     | 4      | size in pages                         | see Count                               |
-- | 32     | 4      | first freelist trunk page, 0 for none |                                         |
-- | 36     | 4      | count of freelist pages               |                                         |
-- | 40     | 4      | schema cookie                         |                                         |
-- | 44     | 4      | schema format                         | HeaderFault above 4                     |
-- | 48     | 4      | cache size                            |                                         |
-- | 52     | 4      | largest root page, 0 for none         | AutoVacuum * unless 0                   |
-- | 56     | 4      | text encoding                         | HeaderFault above 3                     |
-- | 60     | 4      | user version                          |                                         |
-- | 64     | 4      | incremental vacuum                    |                                         |
-- | 68     | 4      | application id                        |                                         |
-- | 72     | 20     | reserved, zeros                       |                                         |
-- | 92     | 4      | version-valid-for                     | see Count                               |
-- | 96     | 4      | SQLite's version number               |                                         |
--
-- * unless marks pass. Numbers are big-endian. The rules are tried in the order of the offsets, and a HeaderFault carries the offset and the
-- number that stands there.
use Rattle.std.specs.Prelude.{IsTrue, Bool, false, ◌&&◌, ℕ, ◌≤◌, ◌^◌, ◌==◌, nat_lt, not, List, [], ◌∷◌, ◌++◌, replicate, codes, Result, if◌then◌else◌}
use Rattle.std.specs.List.{list_any}
use Rattle.std.specs.Int.{w16, w32, to_be_bytes}
use Rattle.db_format.specs.declared.header.Header.{Header}
use Rattle.db_format.specs.declared.header.HeaderRefusal.{HeaderRefusal}
use Rattle.db_format.specs.declared.header.HeaderRefusal.TheVariants.{HeaderFault, WalMode, AutoVacuum}
use Rattle.db_format.specs.Bytes.{u8_at, u16_at, u32_at}
use Rattle.db_format.specs.Rules.{Rule, unless_broken}

-- a page size of the format, in bytes: a power of two from 512 to 65,536 (section 1.3.2)
pub record IsPageSize (size : ℕ) : Type 0 where
  pub power : IsTrue (list_any (λ k. 2 ^ k == size) (9 ∷ 10 ∷ 11 ∷ 12 ∷ 13 ∷ 14 ∷ 15 ∷ 16 ∷ []))
  pub least : 512 ≤ size
  pub most : size ≤ 65536

-- the page size, in bytes, that two stored bytes mean
abbrev pub page_size_of : ℕ → ℕ
page_size_of stored = if stored == 1 then 65536 else stored

-- how a page size is stored in two bytes
abbrev pub stored_page_size : ℕ → ℕ
stored_page_size size = if size == 65536 then 1 else size

-- the rule that the byte at this offset is the one wanted
abbrev pub must_be : List ℕ → ℕ → ℕ → Rule HeaderRefusal
must_be plain offset want = (not (u8_at plain offset == want), HeaderFault offset (u8_at plain offset))

-- the rule that the four bytes at this offset hold no greater number
abbrev pub at_most : List ℕ → ℕ → ℕ → Rule HeaderRefusal
at_most plain offset most = (nat_lt most (u32_at plain offset), HeaderFault offset (u32_at plain offset))

-- the rule that the byte at this offset is 1, or 2 where marks pass
abbrev pub is_version : Bool → List ℕ → ℕ → Rule HeaderRefusal
is_version passes plain at = (not (passes && u8_at plain at == 2) && not (u8_at plain at == 1), HeaderFault at (u8_at plain at))

-- The rules of the table, in its order, for a file of this page size and reserve. Where marks pass, those of WAL mode and of auto-vacuum
-- are no refusal.
abbrev pub header_rules_as : Bool → List ℕ → ℕ → ℕ → List (Rule HeaderRefusal)
header_rules_as passes plain page_size reserve =
    (not (page_size_of (u16_at plain 16) == page_size), HeaderFault 16 (u16_at plain 16))
    ∷ (not passes && u8_at plain 18 == 2, WalMode)
    ∷ is_version passes plain 18
    ∷ (not passes && u8_at plain 19 == 2, WalMode)
    ∷ is_version passes plain 19
    ∷ must_be plain 20 reserve
    ∷ must_be plain 21 64
    ∷ must_be plain 22 32
    ∷ must_be plain 23 32
    ∷ at_most plain 44 4
    ∷ (not passes && not (u32_at plain 52 == 0), AutoVacuum)
    ∷ at_most plain 56 3
    ∷ []

-- the rules of a file that is no such one: all of them
abbrev pub header_rules : List ℕ → ℕ → ℕ → List (Rule HeaderRefusal)
header_rules plain page_size reserve = header_rules_as false plain page_size reserve

-- the fields of the table
abbrev pub header_fields : List ℕ → Header
header_fields plain = record {
  page_size = page_size_of (u16_at plain 16);
  reserve = u8_at plain 20;
  change = u32_at plain 24;
  size_field = u32_at plain 28;
  first_trunk = u32_at plain 32;
  free_count = u32_at plain 36;
  cookie = u32_at plain 40;
  format = u32_at plain 44;
  cache = u32_at plain 48;
  encoding = u32_at plain 56;
  user_version = u32_at plain 60;
  application_id = u32_at plain 68;
  valid_for = u32_at plain 92;
  sqlite_number = u32_at plain 96;
}

-- what page 1 of a file of this page size and reserve is read as, where marks pass or not
abbrev pub header_read_as : Bool → List ℕ → ℕ → ℕ → Result Header HeaderRefusal
header_read_as passes plain page_size reserve = unless_broken (header_rules_as passes plain page_size reserve) (header_fields plain)

-- and where they do not
abbrev pub header_read : List ℕ → ℕ → ℕ → Result Header HeaderRefusal
header_read plain page_size reserve =
    unless_broken (header_rules plain page_size reserve) (header_fields plain)

-- the 100 bytes of a header, in the order of the table
abbrev pub header_bytes : Header → List ℕ
header_bytes header =
    codes "SQLite format 3" ++ 0 ∷ []
    ++ to_be_bytes w16 (stored_page_size header.page_size)
    ++ 1 ∷ 1 ∷ header.reserve ∷ 64 ∷ 32 ∷ 32 ∷ []
    ++ to_be_bytes w32 header.change
    ++ to_be_bytes w32 header.size_field
    ++ to_be_bytes w32 header.first_trunk
    ++ to_be_bytes w32 header.free_count
    ++ to_be_bytes w32 header.cookie
    ++ to_be_bytes w32 header.format
    ++ to_be_bytes w32 header.cache
    ++ replicate 4 0
    ++ to_be_bytes w32 header.encoding
    ++ to_be_bytes w32 header.user_version
    ++ replicate 4 0
    ++ to_be_bytes w32 header.application_id
    ++ replicate 20 0
    ++ to_be_bytes w32 header.valid_for
    ++ to_be_bytes w32 header.sqlite_number
