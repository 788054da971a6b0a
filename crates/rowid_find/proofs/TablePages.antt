-- A page that reads as one of a table has rows alone, and no right child, or keys alone, and a right child.
use Rattle.std.proofs.Common.{◌≡◌, ◌+◌, ◌-◌, ◌*◌, ◌/◌, ℕ, length, drop, Bool, true, false, List, [], ◌∷◌, map, Option, Some, None, Ok, Err, if◌then◌else◌, refl, subst}
use Rattle.std.proofs.Common.{inl, inr}
use Rattle.std.specs.Prelude.{nat_lt}
use Rattle.std.specs.List.{filter_map, range_with_len}
use Rattle.std.specs.Option.{option_and_then, option_map}
use Rattle.db_format.specs.Bytes.{u16_at, u32_at}
use Rattle.btree_page.specs.declared.kind.Family.TheVariants.{Table}
use Rattle.btree_page.specs.declared.kind.Kind.{Kind}
use Rattle.btree_page.specs.declared.kind.Kind.TheVariants.{IndexInterior, TableInterior, IndexLeaf, TableLeaf}
use Rattle.btree_page.specs.declared.page.PageFault.{PageFault}
use Rattle.btree_page.specs.declared.page.PageFault.TheVariants.{BadKind, BadCell}
use Rattle.btree_page.specs.Cell.{Cell, table_leaf, table_interior, index_leaf, index_interior, cell_of, childed, keyed, sized, stored_of}
use Rattle.btree_page.specs.Kind.{header_at, kind_at}
use Rattle.btree_page.specs.Page.{Node, array_end, array_start, cell_at, cell_count, first_lost, is_of, node_at, read_any, read_kind, read_node}
use Rattle.rowid_find.specs.TablePage.{IsTablePage, are_keys, are_rows}

row_or_none : Option Cell → Bool
row_or_none None = true
row_or_none (Some (table_leaf rowid stored)) = true
row_or_none (Some (table_interior left key)) = false
row_or_none (Some (index_leaf stored)) = false
row_or_none (Some (index_interior left stored)) = false

key_or_none : Option Cell → Bool
key_or_none None = true
key_or_none (Some (table_leaf rowid stored)) = false
key_or_none (Some (table_interior left key)) = true
key_or_none (Some (index_leaf stored)) = false
key_or_none (Some (index_interior left stored)) = false

-- a test holds of an option that is made in steps
module _ (test : Option Cell → Bool) (none : test None ≡ true) where
  by_then : {X : Type 0} (f : X → Option Cell) (o : Option X) → ((x : X) → test (f x) ≡ true) → test (option_and_then f o) ≡ true
  by_then f None each = none
  by_then f (Some x) each = each x

  by_map : {X : Type 0} (f : X → Cell) (o : Option X) → ((x : X) → test (Some (f x)) ≡ true) → test (option_map f o) ≡ true
  by_map f None each = none
  by_map f (Some x) each = each x

  by_choice : (b : Bool) (o : Option Cell) → test o ≡ true → test (if b then o else None) ≡ true
  by_choice true o is = is
  by_choice false o is = none

leaf_cell : (usable : ℕ) (bytes : List ℕ) → row_or_none (cell_of TableLeaf usable bytes) ≡ true
unfolding row_or_none
leaf_cell usable bytes =
    by_then row_or_none refl _ (sized bytes) (λ size. by_then row_or_none refl _ (keyed size.1) (λ key. by_map row_or_none refl _ (stored_of Table usable size.0 key.1) (λ stored. refl)))

inner_cell : (usable : ℕ) (bytes : List ℕ) → key_or_none (cell_of TableInterior usable bytes) ≡ true
unfolding key_or_none
inner_cell usable bytes = by_then key_or_none refl _ (childed bytes) (λ left. by_map key_or_none refl _ (keyed left.1) (λ key. refl))

row_first : (o : Option Cell) (os : List (Option Cell)) → row_or_none o ≡ true → are_rows (filter_map (λ c. c) os) ≡ true → are_rows (filter_map (λ c. c) (o ∷ os)) ≡ true
unfolding row_or_none
row_first None os is rest = rest
row_first (Some (table_leaf rowid stored)) os is rest = rest
row_first (Some (table_interior left key)) os is rest = cc
row_first (Some (index_leaf stored)) os is rest = cc
row_first (Some (index_interior left stored)) os is rest = cc

key_first : (o : Option Cell) (os : List (Option Cell)) → key_or_none o ≡ true → are_keys (filter_map (λ c. c) os) ≡ true → are_keys (filter_map (λ c. c) (o ∷ os)) ≡ true
unfolding key_or_none
key_first None os is rest = rest
key_first (Some (table_leaf rowid stored)) os is rest = cc
key_first (Some (table_interior left key)) os is rest = rest
key_first (Some (index_leaf stored)) os is rest = cc
key_first (Some (index_interior left stored)) os is rest = cc

all_rows : (bytes : List ℕ) (header : ℕ) (is : List ℕ) → are_rows (filter_map (λ c. c) (map (cell_at TableLeaf bytes header) is)) ≡ true
unfolding row_or_none
all_rows bytes header [] = refl
all_rows bytes header (i ∷ is) =
    row_first (cell_at TableLeaf bytes header i) (map (cell_at TableLeaf bytes header) is) (by_choice row_or_none refl _ (cell_of TableLeaf (length bytes) (drop (u16_at bytes (array_start TableLeaf header + 2 * i)) bytes)) (leaf_cell (length bytes) (drop (u16_at bytes (array_start TableLeaf header + 2 * i)) bytes))) (all_rows bytes header is)

all_keys : (bytes : List ℕ) (header : ℕ) (is : List ℕ) → are_keys (filter_map (λ c. c) (map (cell_at TableInterior bytes header) is)) ≡ true
unfolding key_or_none
all_keys bytes header [] = refl
all_keys bytes header (i ∷ is) =
    key_first (cell_at TableInterior bytes header i) (map (cell_at TableInterior bytes header) is) (by_choice key_or_none refl _ (cell_of TableInterior (length bytes) (drop (u16_at bytes (array_start TableInterior header + 2 * i)) bytes)) (inner_cell (length bytes) (drop (u16_at bytes (array_start TableInterior header + 2 * i)) bytes))) (all_keys bytes header is)

node_of : (a b : Bool) (one other : PageFault) (node page : Node) → (if a then Err one else (if b then Err other else Ok node)) ≡ Ok page → node ≡ page
node_of true b one other node page is = cc
node_of false true one other node page is = cc
node_of false false one other node page is = cc

kind_node : (bytes : List ℕ) (header : ℕ) (kind : Kind) (page : Node) → read_kind bytes header kind ≡ Ok page → node_at kind bytes header ≡ page
kind_node bytes header kind page is =
    node_of (nat_lt (length bytes) (array_end kind bytes header)) (nat_lt (first_lost kind bytes header) (cell_count bytes header))
    (BadCell ((length bytes - array_start kind header) / 2)) (BadCell (first_lost kind bytes header)) (node_at kind bytes header) page is

page_by : (bytes : List ℕ) (header : ℕ) (kind : Option Kind) (page : Node) → (if is_of Table kind then read_any bytes header kind else Err BadKind) ≡ Ok page → IsTablePage page
page_by bytes header None page is = cc
page_by bytes header (Some IndexInterior) page is = cc
page_by bytes header (Some IndexLeaf) page is = cc
page_by bytes header (Some TableLeaf) page is =
    subst IsTablePage (kind_node bytes header TableLeaf page is) (inl (all_rows bytes header (range_with_len 0 (cell_count bytes header)), refl))
page_by bytes header (Some TableInterior) page is =
    subst IsTablePage (kind_node bytes header TableInterior page is) (inr (all_keys bytes header (range_with_len 0 (cell_count bytes header)), (u32_at bytes (header + 8), refl)))

pub table_page : (n : ℕ) (bytes : List ℕ) (page : Node) → read_node Table n bytes ≡ Ok page → IsTablePage page
table_page n bytes page is = page_by bytes (header_at n) (kind_at n bytes) page is
