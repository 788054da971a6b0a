-- What is met on the way to the rows of a range, in order, as a walk lists it: a place for each page that is asked for, the
-- rows, and what is wrong. It ends at a page that was met before.
use Rattle.std.specs.Prelude.{ℕ, zero, suc, ℤ, List, [], ◌∷◌, ◌++◌, Option, Some, None, Result, Ok, Err, ◌==◌, int_lt, if◌then◌else◌}
use Rattle.std.specs.List.{flat_map}
use Rattle.db_format.specs.declared.defect.Defect.TheVariants.{ChildOutOfRange, TooDeep, ChainShort, ChainLong, RecordFault}
use Rattle.db_format.specs.Bytes.{u32_at}
use Rattle.db_format.specs.Pages.{Pages, nothing}
use Rattle.db_format.specs.Record.{columns}
use Rattle.db_format.specs.Value.{Datum}
use Rattle.btree_page.specs.declared.kind.Family.TheVariants.{Table}
use Rattle.btree_page.specs.declared.page.PageFault.{PageFault}
use Rattle.btree_page.specs.Cell.{StoredCell}
use Rattle.btree_page.specs.Page.{Node, read_node}
use Rattle.btree_page.specs.Step.{Step, child, divider, entry as cell}
use Rattle.btree_model.specs.Finding.{Row, Finding, place, entry, fault, refused, is_sound}
use Rattle.btree_model.specs.Range.{is_in_range}
use Rattle.btree_model.specs.Tree.{max_path}
use Rattle.btree_model.specs.Walk.{links_needed, page_defect, payload_of}
use Rattle.rowid_find.specs.Once.{once}
use Rattle.rowid_find.specs.Wanted.{wanted}

-- the chain from the number n on, which stands on page `holder` and where `more` pages are still needed
abbrev pub chain_findings : Pages → ℕ → ℕ → ℕ → List Finding
chain_findings pages zero holder n = if n == 0 then [] else fault (ChainLong holder) ∷ []
chain_findings pages (suc more) holder n =
    if n == 0 then fault (ChainShort holder) ∷ []
    else (if is_in_range pages n
    then place n ∷ (if pages.accepts n then chain_findings pages more n (u32_at (pages.page n) 0) else refused n ∷ [])
    else fault (ChildOutOfRange holder) ∷ [])

-- the chain of a payload whose cell is on page n
abbrev pub links_of : Pages → ℕ → StoredCell → List Finding
links_of pages n stored =
    if links_needed pages.usable stored == 0 then []
    else (if stored.first == 0 then fault (ChildOutOfRange n) ∷ []
    else chain_findings pages (links_needed pages.usable stored) n stored.first)

-- a row, where its payload is a record
abbrev pub row_found : Row → Option (List Datum) → List Finding
row_found row None = fault (RecordFault row.page) ∷ []
row_found row (Some values) = entry row ∷ []

abbrev pub row_at : Pages → ℕ → Option ℤ → StoredCell → Row
row_at pages n rowid stored = record { rowid = rowid; payload = payload_of pages stored; page = n }

-- a row of page n, where its payload is whole
abbrev pub row_of_cell : Pages → ℕ → Option ℤ → StoredCell → List Finding
row_of_cell pages n rowid stored =
    let found = links_of pages n stored in
    found ++ (if is_sound found then row_found (row_at pages n rowid stored) (columns (payload_of pages stored)) else [])

abbrev pub one_step : Pages → (ℕ → List Finding) → ℕ → Step → List Finding
one_step pages below n (child c) = if is_in_range pages c then below c else fault (ChildOutOfRange n) ∷ []
one_step pages below n (divider k) = []
one_step pages below n (cell rowid stored) = row_of_cell pages n rowid stored

-- these steps of page n in order
abbrev pub all_steps : Pages → (ℕ → List Finding) → ℕ → List Step → List Finding
all_steps pages below n steps = flat_map (one_step pages below n) steps

-- page n as it reads
abbrev pub page_steps : Pages → ℤ → ℤ → (ℕ → List Finding) → ℕ → Result Node PageFault → List Finding
page_steps pages low high below n (Err why) = fault (page_defect n why) ∷ []
page_steps pages low high below n (Ok page) = all_steps pages below n (wanted low high page.cells page.right)

-- from page n on, where a path may have `left` pages more; no page is looked at for an earlier place
unfoldable pub reach : Pages → ℤ → ℤ → ℕ → ℕ → List Finding
reach pages low high zero n = fault (TooDeep n) ∷ []
reach pages low high (suc left) n =
    place n
    ∷ (if pages.accepts n then page_steps pages low high (reach pages low high left) n (read_node Table n (pages.page n)) else refused n ∷ [])

-- from the root on; where `low` is above `high` no page is asked for
abbrev pub reach_range : Pages → ℤ → ℤ → ℕ → List Finding
reach_range pages low high root = if int_lt high low then [] else reach pages low high max_path root

-- the same up to a page that was met before, be it a page of the tree or an overflow page
abbrev pub reach_all : Pages → ℤ → ℤ → ℕ → List Finding
reach_all pages low high root = once nothing (reach_range pages low high root)
