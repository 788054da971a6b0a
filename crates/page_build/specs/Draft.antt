-- A page that is being written.
use Rattle.std.specs.Prelude.{ℕ, zero, suc, ◌≡◌, ◌+◌, ◌-◌, ◌≤◌, true, List, [], ◌∷◌, ◌++◌, length, take, drop, replicate}
use Rattle.db_format.specs.Bytes.{u16_at}
use Rattle.db_format.specs.Pages.{IsUsable}
use Rattle.btree_page.specs.declared.kind.Kind.{Kind}
use Rattle.btree_page.specs.Page.{array_start, header_len}
use Rattle.page_build.specs.Written.{are_long, joined_cells, offsets, padded, page_bytes, used}

pub record Draft : Type 0 where
  -- the usable size of the page
  pub usable : ℕ
  -- where the page header begins: 100 on page 1, else 0
  pub header : ℕ
  pub kind : Kind
  -- the bytes of each cell, in order
  pub cells : List (List ℕ)

-- a page without a cell
abbrev pub blank : ℕ → ℕ → Kind → Draft
blank usable header kind = record { usable = usable; header = header; kind = kind; cells = [] }

-- with one cell more, behind the others
abbrev pub with_cell : Draft → List ℕ → Draft
with_cell draft cell = record draft { cells = draft.cells ++ padded cell ∷ [] }

abbrev pub without_cells : Draft → Draft
without_cells draft = record draft { cells = [] }

-- the same as the first page
abbrev pub as_first : Draft → Draft
as_first draft = record draft { header = 100 }

-- how many bytes are left for cells and their offsets
abbrev pub room_of : Draft → ℕ
room_of draft = draft.usable - used draft.header draft.kind draft.cells

-- the page, with this right child
abbrev pub finished : Draft → ℕ → List ℕ
finished draft right = page_bytes draft.usable (replicate draft.header 0) draft.kind right draft.cells

-- these bytes in the place of those at the offset
abbrev pub laid : ℕ → List ℕ → List ℕ → List ℕ
laid at piece page = take at page ++ (piece ++ drop (at + length piece) page)

-- the cells of so many offsets, the first of which stands at `at` and whose cell ends at `end`
abbrev pub cells_in : List ℕ → ℕ → ℕ → ℕ → List (List ℕ)
cells_in page at end zero = []
cells_in page at end (suc more) = drop (u16_at page at) (take end page) ∷ cells_in page (at + 2) (u16_at page at) more

-- what these bytes are a draft of
abbrev pub draft_of : List ℕ → Kind → ℕ → ℕ → Draft
draft_of page kind header count = record {
  usable = length page;
  header = header;
  kind = kind;
  cells = cells_in page (array_start kind header) (length page) count;
}

-- the page has these cells and no other, the lowest at `start`; its header may have any bytes
pub record IsBuilt (page : List ℕ) (kind : Kind) (header count start : ℕ) (cells : List (List ℕ)) : Type 0 where
  pub usable : IsUsable (length page)
  pub first : header ≤ 100
  pub bytes : page
      ≡ replicate header 0 ++ (take (header_len kind) (drop header page)
      ++ (offsets (length page) cells ++ (replicate (length page - used header kind cells) 0 ++ joined_cells cells)))
  pub count_is : count ≡ length cells
  pub start_is : start + length (joined_cells cells) ≡ length page
  pub fits : used header kind cells ≤ length page
  pub long : are_long cells ≡ true

-- the page has the cells of its draft
abbrev pub IsDrafted : List ℕ → Kind → ℕ → ℕ → ℕ → Type 0
IsDrafted page kind header count start = IsBuilt page kind header count start (draft_of page kind header count).cells
