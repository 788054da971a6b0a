-- A file of which the pointer-map pages went onto the freelist, in rollback mode. Page 1 changes so, and as `specs/FirstPage.antt` says:
--
-- | offset | field               | becomes                                              |
-- | 18     | write version       | 1                                                    |
-- | 19     | read version        | 1                                                    |
-- | 32     | first trunk         | page 2, which is the first map page                  |
-- | 36     | freelist pages      | so many more as there are map pages                  |
-- | 52     | largest root page   | 0                                                    |
-- | 64     | incremental vacuum  | 0                                                    |
--
-- The map pages are the trunks and the leaves of a freelist, of which the old one is the end. Every other page stays as it is stored, the
-- leaves among the map pages too.
use Rattle.std.specs.Prelude.{◌≡◌, ◌≤◌, ◌<◌, ◌+◌, ◌-◌, ◌%◌, ◌/◌, ◌^◌, ◌==◌, ◌&&◌, ◌||◌, not, nat_le, ℕ, Bool, true, false, IsTrue, List, length, Some, [], ◌∷◌}
use Rattle.cipher_profile.specs.Profile.{usable}
use Rattle.db_format.specs.Bytes.{u32_at}
use Rattle.map_pages.specs.Maps.{is_map_page, map_count, map_number, span}
use Rattle.map_pages.specs.Trunks.{is_new_trunk, map_trunk, trunk_from}
use Rattle.page_codec.specs.Page.{FileKeys, accepts, opened, salt_of}
use Rattle.pager.specs.Changed.{with_bytes}
use Rattle.pager.specs.Database.{count_of}
use Rattle.pager.specs.File.{page_stored}
use Rattle.sqlcipher_tool.specs.FirstPage.{next_change, with_field}

-- the two versions of a file in rollback mode, and where they stand
abbrev pub versions : List ℕ
versions = 1 ∷ 1 ∷ []

abbrev pub versions_at : ℕ
versions_at = 18

-- page 1 as a plain page
abbrev pub first_plain : FileKeys → List ℕ → List ℕ
first_plain keys file = opened keys 1 (page_stored keys file 1)

-- by page 1 the file has pointer-map pages
abbrev pub has_maps : List ℕ → Bool
has_maps plain = not (u32_at plain 52 == 0)

-- page 1 with the numbers of the table, but for the versions; the usable size is in bytes, and the database has so many pages
abbrev pub without_maps : ℕ → ℕ → List ℕ → List ℕ
without_maps usable count plain =
    let maps = map_count usable count in
    with_field 64 0 (with_field 52 0 (with_field 36 ((u32_at plain 36 + maps) % 2 ^ 32) (with_field 32 (trunk_from usable maps (u32_at plain 32) 0) plain)))

-- page 1 behind the change: the numbers of both tables
abbrev pub freed_page : ℕ → ℕ → List ℕ → List ℕ
freed_page usable count plain =
    let change = next_change (u32_at plain 24) in
    with_field 92 change (with_field 28 count (with_field 24 change (with_bytes versions_at versions (without_maps usable count plain))))

-- page n is written: it is page 1, or a map page that becomes a trunk
abbrev pub is_rewritten : ℕ → ℕ → ℕ → Bool
is_rewritten usable count n = n == 1 || (is_map_page usable n && nat_le n count && is_new_trunk usable ((n - 2) / span usable))

-- The file `after` is the file `before`, under the new keys, with its map pages on the freelist and in rollback mode.
pub record AreMapsFreed (old new : FileKeys) (before after : List ℕ) : Type 0 where
  pub count : ℕ
  pub was : count_of old before ≡ Some count
  pub some : 1 ≤ count
  pub header : 100 ≤ length (first_plain old before)
  pub there : has_maps (first_plain old before) ≡ true
  pub is : count_of new after ≡ Some count
  pub salt : salt_of after ≡ salt_of before
  pub first : first_plain new after ≡ freed_page (usable old.profile) count (first_plain old before)
  pub trunk : (k : ℕ) → k < map_count (usable old.profile) count → is_new_trunk (usable old.profile) k ≡ true
      → opened new (map_number (usable old.profile) k) (page_stored new after (map_number (usable old.profile) k))
      ≡ map_trunk (usable old.profile) (map_count (usable old.profile) count) (u32_at (first_plain old before) 32) k
  pub accepted : (n : ℕ) → 1 ≤ n → n ≤ count → is_rewritten (usable old.profile) count n ≡ true → IsTrue (accepts new n (page_stored new after n))
  pub others : (n : ℕ) → 1 ≤ n → n ≤ count → is_rewritten (usable old.profile) count n ≡ false → page_stored new after n ≡ page_stored old before n
