-- The definitions computed on small pages of 64 bytes.
use Rattle.std.proofs.Common.{◌≡◌, ℕ, zero, suc, true, List, [], ◌∷◌, ◌++◌, pos, Some, replicate, not, ◌==◌, refl, unwrap_or}
use Rattle.std.specs.Prelude.{slice_get}
use Rattle.btree_page.specs.declared.kind.Family.TheVariants.{Table, Index}
use Rattle.db_format.specs.declared.defect.Defect.TheVariants.{BadKind, BadCell, ChildOutOfRange, PageTwice, TooDeep, ChainShort, ChainLong, RowidOrder}
use Rattle.db_format.specs.Pages.{Pages, nothing, also}
use Rattle.btree_model.specs.Finding.{place, entry, key, refused, places, faults}
use Rattle.db_format.specs.Record.{columns, values_in}
use Rattle.db_format.specs.Serial.{size_of, value_of}
use Rattle.db_format.specs.Varint.{varint}
use Rattle.btree_model.specs.Walk.{walk}
use Rattle.btree_model.specs.Tree.{tree, tree_walk}

-- page n of a list whose first page is page 1
abbrev listed : List (List ℕ) → ℕ → List ℕ
listed pages zero = []
listed pages (suc k) = unwrap_or (slice_get pages k) []

abbrev of_pages : List (List ℕ) → ℕ → Pages
of_pages pages count = record { count = count; usable = 64; page = listed pages; accepts = λ n. true }

abbrev unused : List ℕ
unused = replicate 64 0

abbrev root_page : List ℕ
root_page = 5 ∷ 0 ∷ 0 ∷ 0 ∷ 1 ∷ 0 ∷ 0 ∷ 0 ∷ 0 ∷ 0 ∷ 0 ∷ 4 ∷ 0 ∷ 59 ∷ 0 ∷ 0 ∷ 0 ∷ 0 ∷ 0 ∷ 0 ∷ 0 ∷ 0 ∷ 0 ∷ 0 ∷ 0 ∷ 0 ∷ 0 ∷ 0 ∷ 0 ∷ 0 ∷ 0 ∷ 0 ∷ 0 ∷ 0 ∷ 0 ∷ 0 ∷ 0 ∷ 0 ∷ 0 ∷ 0 ∷ 0 ∷ 0 ∷ 0 ∷ 0 ∷ 0 ∷ 0 ∷ 0 ∷ 0 ∷ 0 ∷ 0 ∷ 0 ∷ 0 ∷ 0 ∷ 0 ∷ 0 ∷ 0 ∷ 0 ∷ 0 ∷ 0 ∷ 0 ∷ 0 ∷ 0 ∷ 3 ∷ 5 ∷ []

abbrev left_page : List ℕ
left_page = 13 ∷ 0 ∷ 0 ∷ 0 ∷ 1 ∷ 0 ∷ 0 ∷ 0 ∷ 0 ∷ 60 ∷ 0 ∷ 0 ∷ 0 ∷ 0 ∷ 0 ∷ 0 ∷ 0 ∷ 0 ∷ 0 ∷ 0 ∷ 0 ∷ 0 ∷ 0 ∷ 0 ∷ 0 ∷ 0 ∷ 0 ∷ 0 ∷ 0 ∷ 0 ∷ 0 ∷ 0 ∷ 0 ∷ 0 ∷ 0 ∷ 0 ∷ 0 ∷ 0 ∷ 0 ∷ 0 ∷ 0 ∷ 0 ∷ 0 ∷ 0 ∷ 0 ∷ 0 ∷ 0 ∷ 0 ∷ 0 ∷ 0 ∷ 0 ∷ 0 ∷ 0 ∷ 0 ∷ 0 ∷ 0 ∷ 0 ∷ 0 ∷ 0 ∷ 0 ∷ 2 ∷ 5 ∷ 7 ∷ 8 ∷ []

abbrev right_page : List ℕ
right_page = 13 ∷ 0 ∷ 0 ∷ 0 ∷ 1 ∷ 0 ∷ 0 ∷ 0 ∷ 0 ∷ 61 ∷ 0 ∷ 0 ∷ 0 ∷ 0 ∷ 0 ∷ 0 ∷ 0 ∷ 0 ∷ 0 ∷ 0 ∷ 0 ∷ 0 ∷ 0 ∷ 0 ∷ 0 ∷ 0 ∷ 0 ∷ 0 ∷ 0 ∷ 0 ∷ 0 ∷ 0 ∷ 0 ∷ 0 ∷ 0 ∷ 0 ∷ 0 ∷ 0 ∷ 0 ∷ 0 ∷ 0 ∷ 0 ∷ 0 ∷ 0 ∷ 0 ∷ 0 ∷ 0 ∷ 0 ∷ 0 ∷ 0 ∷ 0 ∷ 0 ∷ 0 ∷ 0 ∷ 0 ∷ 0 ∷ 0 ∷ 0 ∷ 0 ∷ 0 ∷ 0 ∷ 1 ∷ 6 ∷ 9 ∷ []

abbrev loop_page : List ℕ
loop_page = 5 ∷ 0 ∷ 0 ∷ 0 ∷ 0 ∷ 0 ∷ 0 ∷ 0 ∷ 0 ∷ 0 ∷ 0 ∷ 2 ∷ 0 ∷ 0 ∷ 0 ∷ 0 ∷ 0 ∷ 0 ∷ 0 ∷ 0 ∷ 0 ∷ 0 ∷ 0 ∷ 0 ∷ 0 ∷ 0 ∷ 0 ∷ 0 ∷ 0 ∷ 0 ∷ 0 ∷ 0 ∷ 0 ∷ 0 ∷ 0 ∷ 0 ∷ 0 ∷ 0 ∷ 0 ∷ 0 ∷ 0 ∷ 0 ∷ 0 ∷ 0 ∷ 0 ∷ 0 ∷ 0 ∷ 0 ∷ 0 ∷ 0 ∷ 0 ∷ 0 ∷ 0 ∷ 0 ∷ 0 ∷ 0 ∷ 0 ∷ 0 ∷ 0 ∷ 0 ∷ 0 ∷ 0 ∷ 0 ∷ 0 ∷ []

abbrev low_page : List ℕ
low_page = 13 ∷ 0 ∷ 0 ∷ 0 ∷ 1 ∷ 0 ∷ 0 ∷ 0 ∷ 0 ∷ 61 ∷ 0 ∷ 0 ∷ 0 ∷ 0 ∷ 0 ∷ 0 ∷ 0 ∷ 0 ∷ 0 ∷ 0 ∷ 0 ∷ 0 ∷ 0 ∷ 0 ∷ 0 ∷ 0 ∷ 0 ∷ 0 ∷ 0 ∷ 0 ∷ 0 ∷ 0 ∷ 0 ∷ 0 ∷ 0 ∷ 0 ∷ 0 ∷ 0 ∷ 0 ∷ 0 ∷ 0 ∷ 0 ∷ 0 ∷ 0 ∷ 0 ∷ 0 ∷ 0 ∷ 0 ∷ 0 ∷ 0 ∷ 0 ∷ 0 ∷ 0 ∷ 0 ∷ 0 ∷ 0 ∷ 0 ∷ 0 ∷ 0 ∷ 0 ∷ 0 ∷ 1 ∷ 4 ∷ 9 ∷ []

abbrev spills_page : List ℕ
spills_page = 13 ∷ 0 ∷ 0 ∷ 0 ∷ 1 ∷ 0 ∷ 0 ∷ 0 ∷ 0 ∷ 58 ∷ 0 ∷ 0 ∷ 0 ∷ 0 ∷ 0 ∷ 0 ∷ 0 ∷ 0 ∷ 0 ∷ 0 ∷ 0 ∷ 0 ∷ 0 ∷ 0 ∷ 0 ∷ 0 ∷ 0 ∷ 0 ∷ 0 ∷ 0 ∷ 0 ∷ 0 ∷ 0 ∷ 0 ∷ 0 ∷ 0 ∷ 0 ∷ 0 ∷ 0 ∷ 0 ∷ 0 ∷ 0 ∷ 0 ∷ 0 ∷ 0 ∷ 0 ∷ 0 ∷ 0 ∷ 0 ∷ 0 ∷ 0 ∷ 0 ∷ 0 ∷ 0 ∷ 0 ∷ 0 ∷ 0 ∷ 0 ∷ 100 ∷ 6 ∷ 0 ∷ 0 ∷ 0 ∷ 5 ∷ []

abbrev link_page : List ℕ
link_page = 0 ∷ 0 ∷ 0 ∷ 6 ∷ 2 ∷ 2 ∷ 2 ∷ 2 ∷ 2 ∷ 2 ∷ 2 ∷ 2 ∷ 2 ∷ 2 ∷ 2 ∷ 2 ∷ 2 ∷ 2 ∷ 2 ∷ 2 ∷ 2 ∷ 2 ∷ 2 ∷ 2 ∷ 2 ∷ 2 ∷ 2 ∷ 2 ∷ 2 ∷ 2 ∷ 2 ∷ 2 ∷ 2 ∷ 2 ∷ 2 ∷ 2 ∷ 2 ∷ 2 ∷ 2 ∷ 2 ∷ 2 ∷ 2 ∷ 2 ∷ 2 ∷ 2 ∷ 2 ∷ 2 ∷ 2 ∷ 2 ∷ 2 ∷ 2 ∷ 2 ∷ 2 ∷ 2 ∷ 2 ∷ 2 ∷ 2 ∷ 2 ∷ 2 ∷ 2 ∷ 2 ∷ 2 ∷ 2 ∷ 2 ∷ []

abbrev end_page : List ℕ
end_page = 0 ∷ 0 ∷ 0 ∷ 0 ∷ 3 ∷ 3 ∷ 3 ∷ 3 ∷ 3 ∷ 3 ∷ 3 ∷ 3 ∷ 3 ∷ 3 ∷ 3 ∷ 3 ∷ 3 ∷ 3 ∷ 3 ∷ 3 ∷ 3 ∷ 3 ∷ 3 ∷ 3 ∷ 3 ∷ 3 ∷ 3 ∷ 3 ∷ 3 ∷ 3 ∷ 3 ∷ 3 ∷ 3 ∷ 3 ∷ 3 ∷ 3 ∷ 3 ∷ 3 ∷ 3 ∷ 3 ∷ 3 ∷ 3 ∷ 3 ∷ 3 ∷ 3 ∷ 3 ∷ 3 ∷ 3 ∷ 3 ∷ 3 ∷ 3 ∷ 3 ∷ 3 ∷ 3 ∷ 3 ∷ 3 ∷ 3 ∷ 3 ∷ 3 ∷ 3 ∷ 3 ∷ 3 ∷ 3 ∷ 3 ∷ []

abbrev long_page : List ℕ
long_page = 0 ∷ 0 ∷ 0 ∷ 9 ∷ 3 ∷ 3 ∷ 3 ∷ 3 ∷ 3 ∷ 3 ∷ 3 ∷ 3 ∷ 3 ∷ 3 ∷ 3 ∷ 3 ∷ 3 ∷ 3 ∷ 3 ∷ 3 ∷ 3 ∷ 3 ∷ 3 ∷ 3 ∷ 3 ∷ 3 ∷ 3 ∷ 3 ∷ 3 ∷ 3 ∷ 3 ∷ 3 ∷ 3 ∷ 3 ∷ 3 ∷ 3 ∷ 3 ∷ 3 ∷ 3 ∷ 3 ∷ 3 ∷ 3 ∷ 3 ∷ 3 ∷ 3 ∷ 3 ∷ 3 ∷ 3 ∷ 3 ∷ 3 ∷ 3 ∷ 3 ∷ 3 ∷ 3 ∷ 3 ∷ 3 ∷ 3 ∷ 3 ∷ 3 ∷ 3 ∷ 3 ∷ 3 ∷ 3 ∷ 3 ∷ []

-- two leaves below one page
abbrev two_levels : Pages
two_levels = of_pages (unused ∷ root_page ∷ left_page ∷ right_page ∷ []) 4

pub two_levels_entries : tree two_levels Table 2
    ≡ Some (record { rowid = Some (pos 5); payload = 7 ∷ 8 ∷ []; page = 3 } ∷ record { rowid = Some (pos 6); payload = 9 ∷ []; page = 4 } ∷ [])
unfolding walk columns values_in varint value_of size_of
two_levels_entries = refl

pub two_levels_places : places (tree_walk two_levels Table nothing 2) ≡ 2 ∷ 3 ∷ 4 ∷ []
unfolding walk columns values_in varint value_of size_of
two_levels_places = refl

-- page 4 has a place in an earlier part
pub taken_before : faults (tree_walk two_levels Table (also (4 ∷ []) nothing) 2) ≡ PageTwice 4 ∷ []
unfolding walk columns values_in varint value_of size_of
taken_before = refl

-- an index was asked for
pub other_family : faults (tree_walk two_levels Index nothing 2) ≡ BadKind 2 ∷ []
unfolding walk columns values_in varint value_of size_of
other_family = refl

-- a root that is its own right child
pub own_child : faults (tree_walk (of_pages (unused ∷ loop_page ∷ []) 2) Table nothing 2) ≡ PageTwice 2 ∷ []
unfolding walk columns values_in varint value_of size_of
own_child = refl

-- a rowid that is not above the key to its left
pub below_key : faults (tree_walk (of_pages (unused ∷ root_page ∷ left_page ∷ low_page ∷ []) 4) Table nothing 2) ≡ RowidOrder 4 ∷ []
unfolding walk columns values_in varint value_of size_of
below_key = refl

-- a rowid above the key behind it: 6 stands to the left of 5
abbrev late_page : List ℕ
late_page = 13 ∷ 0 ∷ 0 ∷ 0 ∷ 2 ∷ 0 ∷ 0 ∷ 0 ∷ 0 ∷ 61 ∷ 0 ∷ 58 ∷ 0 ∷ 0 ∷ 0 ∷ 0 ∷ 0 ∷ 0 ∷ 0 ∷ 0 ∷ 0 ∷ 0 ∷ 0 ∷ 0 ∷ 0 ∷ 0 ∷ 0 ∷ 0 ∷ 0 ∷ 0 ∷ 0 ∷ 0 ∷ 0 ∷ 0 ∷ 0 ∷ 0 ∷ 0 ∷ 0 ∷ 0 ∷ 0 ∷ 0 ∷ 0 ∷ 0 ∷ 0 ∷ 0 ∷ 0 ∷ 0 ∷ 0 ∷ 0 ∷ 0 ∷ 0 ∷ 0 ∷ 0 ∷ 0 ∷ 0 ∷ 0 ∷ 0 ∷ 0 ∷ 1 ∷ 6 ∷ 9 ∷ 1 ∷ 4 ∷ 9 ∷ []

pub above_key : faults (tree_walk (of_pages (unused ∷ root_page ∷ late_page ∷ right_page ∷ []) 4) Table nothing 2) ≡ RowidOrder 3 ∷ (RowidOrder 4 ∷ [])
unfolding walk columns values_in varint value_of size_of
above_key = refl

-- 40 offsets do not fit 64 bytes: the first that is lost has index 28
abbrev lost_page : List ℕ
lost_page = 13 ∷ 0 ∷ 0 ∷ 0 ∷ 40 ∷ 0 ∷ 0 ∷ 0 ∷ 0 ∷ 61 ∷ 0 ∷ 0 ∷ 0 ∷ 0 ∷ 0 ∷ 0 ∷ 0 ∷ 0 ∷ 0 ∷ 0 ∷ 0 ∷ 0 ∷ 0 ∷ 0 ∷ 0 ∷ 0 ∷ 0 ∷ 0 ∷ 0 ∷ 0 ∷ 0 ∷ 0 ∷ 0 ∷ 0 ∷ 0 ∷ 0 ∷ 0 ∷ 0 ∷ 0 ∷ 0 ∷ 0 ∷ 0 ∷ 0 ∷ 0 ∷ 0 ∷ 0 ∷ 0 ∷ 0 ∷ 0 ∷ 0 ∷ 0 ∷ 0 ∷ 0 ∷ 0 ∷ 0 ∷ 0 ∷ 0 ∷ 0 ∷ 0 ∷ 0 ∷ 0 ∷ 1 ∷ 4 ∷ 9 ∷ []

pub lost_offset : faults (tree_walk (of_pages (unused ∷ lost_page ∷ []) 2) Table nothing 2) ≡ BadCell 2 28 ∷ []
unfolding walk columns values_in varint value_of size_of
lost_offset = refl

-- the second cell does not end on its page
abbrev bad_page : List ℕ
bad_page = 13 ∷ 0 ∷ 0 ∷ 0 ∷ 2 ∷ 0 ∷ 0 ∷ 0 ∷ 0 ∷ 61 ∷ 0 ∷ 63 ∷ 0 ∷ 0 ∷ 0 ∷ 0 ∷ 0 ∷ 0 ∷ 0 ∷ 0 ∷ 0 ∷ 0 ∷ 0 ∷ 0 ∷ 0 ∷ 0 ∷ 0 ∷ 0 ∷ 0 ∷ 0 ∷ 0 ∷ 0 ∷ 0 ∷ 0 ∷ 0 ∷ 0 ∷ 0 ∷ 0 ∷ 0 ∷ 0 ∷ 0 ∷ 0 ∷ 0 ∷ 0 ∷ 0 ∷ 0 ∷ 0 ∷ 0 ∷ 0 ∷ 0 ∷ 0 ∷ 0 ∷ 0 ∷ 0 ∷ 0 ∷ 0 ∷ 0 ∷ 0 ∷ 1 ∷ 6 ∷ 9 ∷ 1 ∷ 4 ∷ 9 ∷ []

pub bad_second : faults (tree_walk (of_pages (unused ∷ bad_page ∷ []) 2) Table nothing 2) ≡ BadCell 2 1 ∷ []
unfolding walk columns values_in varint value_of size_of
bad_second = refl

-- the right child is out of range
pub out_of_range : faults (tree_walk (of_pages (unused ∷ root_page ∷ left_page ∷ right_page ∷ []) 3) Table nothing 2) ≡ ChildOutOfRange 2 ∷ []
unfolding walk columns values_in varint value_of size_of
out_of_range = refl

-- a payload on two overflow pages
abbrev spilled : List ℕ → Pages
spilled last = of_pages (unused ∷ root_page ∷ left_page ∷ spills_page ∷ link_page ∷ last ∷ []) 6

pub spilled_places : places (tree_walk (spilled end_page) Table nothing 2) ≡ 2 ∷ 3 ∷ 4 ∷ 5 ∷ 6 ∷ []
unfolding walk columns values_in varint value_of size_of
spilled_places = refl

pub spilled_entries : tree (spilled end_page) Table 2
    ≡ Some (record { rowid = Some (pos 5); payload = 7 ∷ 8 ∷ []; page = 3 } ∷ record { rowid = Some (pos 6); payload = replicate 60 2 ++ replicate 40 3; page = 4 } ∷ [])
unfolding walk columns values_in varint value_of size_of
spilled_entries = refl

pub too_long : faults (tree_walk (spilled long_page) Table nothing 2) ≡ ChainLong 6 ∷ []
unfolding walk columns values_in varint value_of size_of
too_long = refl

pub too_short : faults (tree_walk (of_pages (unused ∷ root_page ∷ left_page ∷ spills_page ∷ end_page ∷ []) 5) Table nothing 2) ≡ ChainShort 5 ∷ []
unfolding walk columns values_in varint value_of size_of
too_short = refl

-- a chain that comes back to its own first page
pub chain_twice : faults (tree_walk (of_pages (unused ∷ root_page ∷ left_page ∷ spills_page ∷ (0 ∷ 0 ∷ 0 ∷ 5 ∷ replicate 60 2) ∷ []) 5) Table nothing 2) ≡ PageTwice 5 ∷ []
unfolding walk columns values_in varint value_of size_of
chain_twice = refl

-- a page that is not accepted
pub not_accepted : tree_walk (record two_levels { accepts = λ n. not (n == 3) }) Table nothing 2 ≡ place 2 ∷ place 3 ∷ refused 3 ∷ key (pos 5) ∷ place 4
    ∷ entry (record { rowid = Some (pos 6); payload = 9 ∷ []; page = 4 }) ∷ []
unfolding walk columns values_in varint value_of size_of
not_accepted = refl

-- a path of 21 pages: page n has page n + 1 as its right child
abbrev deep : Pages
deep = record { count = 40; usable = 64; page = λ n. 5 ∷ 0 ∷ 0 ∷ 0 ∷ 0 ∷ 0 ∷ 0 ∷ 0 ∷ 0 ∷ 0 ∷ 0 ∷ suc n ∷ replicate 52 0; accepts = λ n. true }

pub too_deep : faults (tree_walk deep Table nothing 2) ≡ TooDeep 22 ∷ []
unfolding walk columns values_in varint value_of size_of
too_deep = refl
