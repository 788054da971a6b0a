-- Pointer-map pages of a database with auto-vacuum: Database File Format, section 1.8. Page 2 is the first, and each has an entry of
-- five bytes for every page up to the next. The usable size is in bytes; pages are numbered from 1, map pages from 0.
--
-- SQLite moves a map page that would lie at byte 2^30 of the file. The files here end before it.
use Rattle.std.specs.Prelude.{ℕ, ◌+◌, ◌-◌, ◌*◌, ◌/◌, ◌%◌, Bool, ◌&&◌, ◌==◌, nat_le, if◌then◌else◌}
use Rattle.db_format.specs.Pages.{Pages, Test}

-- from a map page to the next, in pages
abbrev pub span : ℕ → ℕ
span usable = usable / 5 + 1

abbrev pub is_map_page : ℕ → ℕ → Bool
is_map_page usable n = nat_le 2 n && (n - 2) % span usable == 0

-- the number of the page that is map page k
abbrev pub map_number : ℕ → ℕ → ℕ
map_number usable k = 2 + k * span usable

-- how many of so many pages are map pages
abbrev pub map_count : ℕ → ℕ → ℕ
map_count usable count = if nat_le 2 count then (count - 2) / span usable + 1 else 0

-- the map pages among these pages, and how many there are
abbrev pub is_map : Pages → Test
is_map pages n = is_map_page pages.usable n && nat_le n pages.count

abbrev pub maps_of : Pages → ℕ
maps_of pages = map_count pages.usable pages.count
