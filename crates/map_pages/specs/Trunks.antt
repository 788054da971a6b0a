-- Map pages as pages of a freelist (Database File Format, section 1.5): every so many of them is a trunk, and those up to the next one
-- are its leaves. The last of the trunks names the first trunk of the old freelist.
--
-- A trunk's page, for U usable bytes and n leaves:
--
-- | offset | length      | field                          |
-- | 0      | 4           | the next trunk, 0 at the end   |
-- | 4      | 4           | how many leaves                |
-- | 8      | 4 n         | their numbers                  |
-- | 8 + 4n | U - 8 - 4 n | zeros                          |
use Rattle.std.specs.Prelude.{ℕ, ◌+◌, ◌-◌, ◌*◌, ◌/◌, ◌%◌, min, nat_lt, Bool, ◌==◌, if◌then◌else◌, List, ◌++◌, map, flat_map, replicate}
use Rattle.std.specs.Int.{w32, to_be_bytes}
use Rattle.std.specs.List.{range_with_len}
use Rattle.btree_model.specs.Finding.{Finding, place, leaf}
use Rattle.map_pages.specs.Maps.{map_number}

-- How many leaves a new trunk has at most. The last six places that the format has stay empty, as in files of SQLite: older releases
-- misread them.
abbrev pub room : ℕ → ℕ
room usable = usable / 4 - 8

abbrev pub is_new_trunk : ℕ → ℕ → Bool
is_new_trunk usable k = k % (room usable + 1) == 0

-- how many leaves the trunk has that is map page k, of so many map pages
abbrev pub leaves_behind : ℕ → ℕ → ℕ → ℕ
leaves_behind usable maps k = min (room usable) (maps - (k + 1))

-- the trunk from map page k on: that page, or the first trunk of the old freelist where there are no more map pages
abbrev pub trunk_from : ℕ → ℕ → ℕ → ℕ → ℕ
trunk_from usable maps old_first k = if nat_lt k maps then map_number usable k else old_first

-- `many` map numbers from k on
abbrev pub numbers_from : ℕ → ℕ → ℕ → List ℕ
numbers_from usable k many = map (map_number usable) (range_with_len k many)

-- the bytes of the trunk that is map page k, up to the zeros
abbrev pub trunk_head : ℕ → ℕ → ℕ → ℕ → List ℕ
trunk_head usable maps old_first k =
    let many = leaves_behind usable maps k in
    to_be_bytes w32 (trunk_from usable maps old_first (k + room usable + 1)) ++ to_be_bytes w32 many
    ++ flat_map (to_be_bytes w32) (numbers_from usable (k + 1) many)

-- its page
abbrev pub map_trunk : ℕ → ℕ → ℕ → ℕ → List ℕ
map_trunk usable maps old_first k = trunk_head usable maps old_first k ++ replicate (usable - (8 + 4 * leaves_behind usable maps k)) 0

-- as what a walk of the freelist meets map page k
abbrev pub map_finding : ℕ → ℕ → Finding
map_finding usable k = if is_new_trunk usable k then place (map_number usable k) else leaf (map_number usable k)

-- `many` of them from k on
abbrev pub findings_from : ℕ → ℕ → ℕ → List Finding
findings_from usable k many = map (map_finding usable) (range_with_len k many)
