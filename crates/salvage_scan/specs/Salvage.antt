-- The rows of sound leaves of tables, whatever became of the schema, the freelist and the header: a list of lines over all whole
-- pages of a file, ascending.
use Rattle.std.specs.Prelude.{◌≡◌, ℕ, zero, suc, ℤ, Bool, true, false, ◌&&◌, List, [], ◌∷◌, count_by, nat_le, Option, Some, None, Result, Ok, Err, if◌then◌else◌}
use Rattle.std.specs.List.{flat_map, range_with_len}
use Rattle.edge_model.specs.Files.{Files, main_of}
use Rattle.page_codec.specs.Page.{FileKeys}
use Rattle.db_format.specs.Bytes.{u32_at}
use Rattle.db_format.specs.Pages.{Pages, is_page}
use Rattle.db_format.specs.Record.{columns}
use Rattle.db_format.specs.Value.{Datum}
use Rattle.btree_page.specs.declared.kind.Kind.{Kind}
use Rattle.btree_page.specs.declared.kind.Kind.TheVariants.{IndexInterior, TableInterior, IndexLeaf, TableLeaf}
use Rattle.btree_page.specs.declared.page.PageFault.{PageFault}
use Rattle.btree_page.specs.declared.page.PageFault.TheVariants.{BadKind, BadCell}
use Rattle.btree_page.specs.Cell.{Cell, StoredCell, table_leaf, table_interior, index_leaf, index_interior}
use Rattle.btree_page.specs.Kind.{kind_at}
use Rattle.btree_page.specs.Page.{Node, read_page}
use Rattle.btree_model.specs.Range.{is_in_range}
use Rattle.btree_model.specs.Walk.{links_needed, payload_of}
use Rattle.pager.specs.File.{whole_pages}
use Rattle.pager.specs.Pages.{opened_pages}

-- the whole pages of a file by its length, each opened with these keys
abbrev pub pages_of_file : FileKeys → List ℕ → Pages
pages_of_file keys file = opened_pages keys file (whole_pages keys.profile file)

-- those of Main
abbrev pub file_pages : FileKeys → Files → Pages
file_pages keys files = pages_of_file keys (main_of files)

-- no page is accepted
abbrev pub IsNoneAccepted : Pages → Type 0
IsNoneAccepted pages = (n : ℕ) → is_page pages n ≡ true → pages.accepts n ≡ false

-- ---- the lines

pub data Line : Type 0 where
  -- the page is not accepted
  tag_refused : ℕ → Line
  -- a row of this page, with its rowid and its values
  row : ℕ → ℤ → List Datum → Line
  -- a row whose payload is not whole, or is no record
  lost : ℕ → ℤ → Line
  -- a leaf of a table of which no row is taken, by its first bad cell
  bad_cell : ℕ → ℕ → Line

-- `more` overflow pages from the number n on are there. What the last one names is not looked at.
abbrev pub is_chain : Pages → ℕ → ℕ → Bool
is_chain pages zero n = true
is_chain pages (suc more) n = is_in_range pages n && (pages.accepts n && is_chain pages more (u32_at (pages.page n) 0))

-- the payload is whole; it needs no more overflow pages than there are pages
abbrev pub is_whole_cell : Pages → StoredCell → Bool
is_whole_cell pages stored =
    nat_le (links_needed pages.usable stored) pages.count && is_chain pages (links_needed pages.usable stored) stored.first

abbrev pub row_line : ℕ → ℤ → Option (List Datum) → Line
row_line n rowid None = lost n rowid
row_line n rowid (Some values) = row n rowid values

-- the row of page n with this rowid, where its payload is whole and a record
abbrev pub payload_line : Pages → ℕ → ℤ → StoredCell → Line
payload_line pages n rowid stored = row_line n rowid (if is_whole_cell pages stored then columns (payload_of pages stored) else None)

abbrev pub cell_lines : Pages → ℕ → Cell → List Line
cell_lines pages n (table_leaf rowid stored) = payload_line pages n rowid stored ∷ []
cell_lines pages n (table_interior left key) = []
cell_lines pages n (index_leaf stored) = []
cell_lines pages n (index_interior left stored) = []

-- a leaf of a table that can't be read
abbrev pub fault_lines : ℕ → PageFault → List Line
fault_lines n BadKind = []
fault_lines n (BadCell index) = bad_cell n index ∷ []

abbrev pub is_table_leaf : Option Kind → Bool
is_table_leaf None = false
is_table_leaf (Some IndexInterior) = false
is_table_leaf (Some TableInterior) = false
is_table_leaf (Some IndexLeaf) = false
is_table_leaf (Some TableLeaf) = true

-- a leaf of a table, as it reads
abbrev pub read_lines : Pages → ℕ → Result Node PageFault → List Line
read_lines pages n (Ok page) = flat_map (cell_lines pages n) page.cells
read_lines pages n (Err fault) = fault_lines n fault

-- page n with these bytes, which is accepted
abbrev pub leaf_lines : Pages → ℕ → List ℕ → List Line
leaf_lines pages n bytes = if is_table_leaf (kind_at n bytes) then read_lines pages n (read_page n bytes) else []

abbrev pub page_lines : Pages → ℕ → List Line
page_lines pages n =
    if pages.accepts n then leaf_lines pages n (pages.page n) else tag_refused n ∷ []

-- the lines of all pages
abbrev pub salvage_lines : Pages → List Line
salvage_lines pages = flat_map (page_lines pages) (range_with_len 1 pages.count)

-- ---- their counts

abbrev pub is_row : Line → Bool
is_row (tag_refused n) = false
is_row (row n rowid values) = true
is_row (lost n rowid) = false
is_row (bad_cell n index) = false

abbrev pub is_lost : Line → Bool
is_lost (tag_refused n) = false
is_lost (row n rowid values) = false
is_lost (lost n rowid) = true
is_lost (bad_cell n index) = false

abbrev pub is_refused_line : Line → Bool
is_refused_line (tag_refused n) = true
is_refused_line (row n rowid values) = false
is_refused_line (lost n rowid) = false
is_refused_line (bad_cell n index) = false

pub record LineCounts : Type 0 where
  pub rows : ℕ
  pub lost_rows : ℕ
  pub refused_pages : ℕ

abbrev pub counts_of : List Line → LineCounts
counts_of lines = record { rows = count_by is_row lines; lost_rows = count_by is_lost lines; refused_pages = count_by is_refused_line lines }

abbrev pub no_counts : LineCounts
no_counts = record { rows = 0; lost_rows = 0; refused_pages = 0 }
