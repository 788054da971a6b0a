-- Sources of pages: their pins and faults, and the pages of one in memory.
use Rattle.std.specs.Prelude.{ℕ, ◌+◌, ◌-◌, ◌*◌, ◌/◌, ◌^◌, ◌≤◌, ◌==◌, min, true, List, [], length, take, drop, slice_index, if◌then◌else◌}
use Rattle.db_format.specs.Pages.{Pages}

-- the count is greater than before, or stands at the top of a `u64`
abbrev pub Rose : ℕ → ℕ → Type 0
Rose before now = min (before + 1) (2 ^ 64 - 1) ≤ now

-- the pins of each page, with one more for page n
abbrev pub one_more : ℕ → (ℕ → ℕ) → ℕ → ℕ
one_more n pins m = if m == n then pins m + 1 else pins m

-- with one less
abbrev pub one_less : ℕ → (ℕ → ℕ) → ℕ → ℕ
one_less n pins m = if m == n then pins m - 1 else pins m

-- no page has a pin
abbrev pub no_pins : ℕ → ℕ
no_pins n = 0

-- the pins of a page in a list by page number, whose first number serves none
abbrev pub pin_count : List ℕ → ℕ → ℕ
pin_count pins n = if n == 0 then 0 else slice_index pins n

-- page n of pages of this length that stand in a row
abbrev pub page_at : ℕ → List ℕ → ℕ → List ℕ
page_at usable bytes n = if n == 0 then [] else take usable (drop ((n - 1) * usable) bytes)

-- pages of this length that stand in a row, all of them accepted
abbrev pub pages_of : ℕ → List ℕ → Pages
pages_of usable bytes = record {
  count = length bytes / usable;
  usable = usable;
  page = page_at usable bytes;
  accepts = λ n. true;
}
