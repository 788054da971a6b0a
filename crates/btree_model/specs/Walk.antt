-- The walk of a tree, as one list (Database File Format, sections 1.6 and 1.7).
--
-- It lists, in order, each sound place of the tree, each entry after the places of its payload, each key, and the
-- defects of each place. A place comes before all that its page leads to, and that in the order of the page's steps.
-- `taken` is the test of the pages that have a place in an earlier part, and `met` what this part's walk met before.
use Rattle.std.specs.Prelude.{ℕ, zero, suc, ◌+◌, ◌-◌, ◌/◌, ℤ, Bool, true, false, List, [], ◌∷◌, ◌++◌, length, take, drop, Option, Some, None, Result, Ok, Err, ◌==◌, int_lt, int_le, if◌then◌else◌}
use Rattle.std.specs.List.{list_any}
use Rattle.std.specs.Option.{option_map_or}
use Rattle.db_format.specs.declared.defect.Defect.{Defect}
use Rattle.db_format.specs.declared.defect.Defect.TheVariants.{BadKind, BadCell, ChildOutOfRange, PageTwice, TooDeep, ChainShort, ChainLong, RowidOrder}
use Rattle.db_format.specs.Bytes.{u32_at}
use Rattle.db_format.specs.Pages.{Pages, Test, also}
use Rattle.btree_page.specs.declared.kind.Family.{Family}
use Rattle.btree_page.specs.declared.page.PageFault.{PageFault}
use Rattle.btree_page.specs.declared.page.PageFault.TheVariants.{BadKind as NoKind, BadCell as NoCell}
use Rattle.btree_page.specs.Cell.{StoredCell}
use Rattle.btree_page.specs.Page.{Node, read_node}
use Rattle.btree_page.specs.Step.{Step, child, divider, entry as cell, steps}
use Rattle.btree_model.specs.Range.{is_in_range}
use Rattle.btree_model.specs.Finding.{Row, Finding, place, entry, key, fault, refused, places, entries, keys, is_sound}

-- page n has an earlier place: in an earlier part, or in this one
abbrev pub is_met : Test → List Finding → ℕ → Bool
is_met taken met n = also (places met) taken n

-- how many overflow pages a payload needs
abbrev pub links_needed : ℕ → StoredCell → ℕ
links_needed usable stored = (stored.size - length stored.local + (usable - 5)) / (usable - 4)

-- the bytes of `more` overflow pages from page n on
abbrev pub chain_bytes : Pages → ℕ → ℕ → List ℕ
chain_bytes pages zero n = []
chain_bytes pages (suc more) n = drop 4 (pages.page n) ++ chain_bytes pages more (u32_at (pages.page n) 0)

-- the payload: its local bytes and those of its chain, cut to its length
abbrev pub payload_of : Pages → StoredCell → List ℕ
payload_of pages stored = take stored.size (stored.local ++ chain_bytes pages (links_needed pages.usable stored) stored.first)

-- page n of a chain: has it an earlier place, is it accepted, and what follows
abbrev pub link : ℕ → Bool → Bool → List Finding → List Finding
link n true accepted after = place n ∷ (fault (PageTwice n) ∷ [])
link n false false after = place n ∷ (refused n ∷ [])
link n false true after = place n ∷ after

-- the chain from the number n on, which stands on page `holder` and where `more` pages are still needed
abbrev pub chain : Pages → Test → List Finding → ℕ → ℕ → ℕ → List Finding
chain pages taken met zero holder n = if n == 0 then [] else fault (ChainLong holder) ∷ []
chain pages taken met (suc more) holder n =
    if n == 0 then fault (ChainShort holder) ∷ []
    else (if is_in_range pages n
    then link n (is_met taken met n) (pages.accepts n) (chain pages taken (met ++ place n ∷ []) more n (u32_at (pages.page n) 0))
    else fault (ChildOutOfRange holder) ∷ [])

-- the chain of a payload whose cell is on page n
abbrev pub chain_of : Pages → Test → List Finding → ℕ → StoredCell → List Finding
chain_of pages taken met n stored =
    if links_needed pages.usable stored == 0 then []
    else (if stored.first == 0 then fault (ChildOutOfRange n) ∷ []
    else chain pages taken met (links_needed pages.usable stored) n stored.first)

-- a rowid is above each rowid and each key before it
abbrev pub order_faults : List Finding → ℕ → Option ℤ → List Finding
order_faults met n None = []
order_faults met n (Some rowid) = if list_any (λ k. int_le rowid k) (keys met) then fault (RowidOrder n) ∷ [] else []

-- and not above a key behind it: the entries that were met and are
abbrev pub late_faults : ℤ → List Row → List Finding
late_faults k [] = []
late_faults k (row ∷ rows) =
    (if option_map_or (λ rowid. int_lt k rowid) row.rowid false then fault (RowidOrder row.page) ∷ [] else []) ++ late_faults k rows

-- an entry of page n: its rowid's defect, its chain, and the entry where its chain is whole
abbrev pub given : Pages → Test → List Finding → ℕ → Option ℤ → StoredCell → List Finding
given pages taken met n rowid stored =
    let found = chain_of pages taken met n stored in
    order_faults met n rowid ++ (found
    ++ (if is_sound found then entry (record { rowid = rowid; payload = payload_of pages stored; page = n }) ∷ [] else []))

-- the walk of a child, after what was met
abbrev pub Below : Type 0
Below = List Finding → ℕ → List Finding

abbrev pub step : Pages → Test → Below → List Finding → ℕ → Step → List Finding
step pages taken below met n (child c) = if is_in_range pages c then below met c else fault (ChildOutOfRange n) ∷ []
step pages taken below met n (divider k) = key k ∷ late_faults k (entries met)
step pages taken below met n (cell rowid stored) = given pages taken met n rowid stored

-- the steps of page n in order
abbrev pub steps_of : Pages → Test → Below → List Finding → ℕ → List Step → List Finding
steps_of pages taken below met n [] = []
steps_of pages taken below met n (s ∷ rest) =
    let found = step pages taken below met n s in found ++ steps_of pages taken below (met ++ found) n rest

-- why page n is no page of the tree
abbrev pub page_defect : ℕ → PageFault → Defect
page_defect n NoKind = BadKind n
page_defect n (NoCell index) = BadCell n index

-- page n, with no earlier place and accepted, as it reads
abbrev pub inside : Pages → Test → Below → List Finding → ℕ → Result Node PageFault → List Finding
inside pages taken below met n (Err why) = fault (page_defect n why) ∷ []
inside pages taken below met n (Ok page) = steps_of pages taken below (met ++ place n ∷ []) n (steps page.cells page.right)

-- page n, which is in range: has it an earlier place, is it accepted, how does it read
abbrev pub visit : Pages → Family → Test → Below → List Finding → ℕ → Bool → Bool → List Finding
visit pages family taken below met n true accepted = fault (PageTwice n) ∷ []
visit pages family taken below met n false false = refused n ∷ []
visit pages family taken below met n false true = inside pages taken below met n (read_node family n (pages.page n))

-- a page to which a path of 20 pages leads
abbrev pub too_deep : ℕ → Bool → List Finding
too_deep n true = fault (PageTwice n) ∷ []
too_deep n false = fault (TooDeep n) ∷ []

-- the tree of this family from page n on, where a path may have `left` pages more
unfoldable pub walk : Pages → Family → Test → ℕ → List Finding → ℕ → List Finding
walk pages family taken zero met n = place n ∷ too_deep n (is_met taken met n)
walk pages family taken (suc left) met n =
    place n ∷ visit pages family taken (walk pages family taken left) met n (is_met taken met n) (pages.accepts n)
