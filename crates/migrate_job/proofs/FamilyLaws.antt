-- The entries of a table's walk have rowids, and those of an index have none.
use Rattle.std.proofs.Common.{◌≡◌, ℕ, zero, suc, ◌+◌, ◌*◌, ℤ, Bool, true, false, List, [], ◌∷◌, ◌++◌, ◌==◌, ◌&&◌, map, drop, length, Option, Some, None, Result, Ok, Err, if◌then◌else◌, refl, ap, sym, ◌∙◌}
use Rattle.std.specs.Prelude.{nat_le, nat_lt}
use Rattle.std.specs.List.{cons_option, filter_map, list_all, list_any}
use Rattle.std.specs.Option.{option_and_then, option_map, option_map_or}
use Rattle.std.proofs.lemmas.List.Folds.{list_all-append}
use Rattle.std.specs.Prelude.{int_le, int_lt}
use Rattle.db_format.specs.declared.defect.Defect.TheVariants.{RowidOrder}
use Rattle.btree_page.specs.declared.kind.Family.{Family}
use Rattle.btree_page.specs.declared.kind.Family.TheVariants.{Table, Index}
use Rattle.btree_page.specs.declared.kind.Kind.{Kind}
use Rattle.btree_page.specs.declared.kind.Kind.TheVariants.{IndexInterior, TableInterior, IndexLeaf, TableLeaf}
use Rattle.btree_page.specs.declared.page.PageFault.{PageFault}
use Rattle.btree_page.specs.Cell.{Cell, StoredCell, table_leaf, table_interior, index_leaf, index_interior, cell_of, childed, keyed, sized, stored_of}
use Rattle.btree_page.specs.Kind.{family_of, header_at, kind_at, same_family}
use Rattle.btree_page.specs.Page.{Node, cell_at, cell_count, array_end, array_start, first_lost, is_of, node_at, read_any, read_kind, read_node}
use Rattle.btree_page.specs.Step.{Step, child, divider, entry as cell, steps}
use Rattle.db_format.specs.Bytes.{u16_at, u32_at}
use Rattle.db_format.specs.Pages.{Pages, Test}
use Rattle.btree_model.specs.Range.{is_in_range}
use Rattle.btree_model.specs.Finding.{Finding, Row, place, entry, fault, entries, is_sound, keys}
use Rattle.btree_model.specs.Tree.{tree_walk}
use Rattle.btree_model.specs.Walk.{Below, chain, chain_of, given, inside, is_met, late_faults, link, links_needed, order_faults, payload_of, step, steps_of, too_deep, visit, walk}
use Rattle.btree_model.proofs.FindingLemmas.{entries-append}
use Rattle.btree_model.proofs.UnmarkedLemmas.{and_left, and_right}
use Rattle.bulk_load.specs.Loader.{is_for}

-- ---- the steps of a page

-- a cell of a tree of this family
abbrev cell_for : Family → Cell → Bool
cell_for Table (table_leaf rowid stored) = true
cell_for Table (table_interior left k) = true
cell_for Table (index_leaf stored) = false
cell_for Table (index_interior left stored) = false
cell_for Index (table_leaf rowid stored) = false
cell_for Index (table_interior left k) = false
cell_for Index (index_leaf stored) = true
cell_for Index (index_interior left stored) = true

abbrev step_for : Family → Step → Bool
step_for family (child n) = true
step_for family (divider k) = true
step_for family (cell rowid stored) = is_for family rowid

-- all that an option has is so
abbrev IsAll : {X : Type 0} → (X → Bool) → Option X → Type 0
IsAll p o = option_map_or p o true ≡ true

and_then_all : {X Y : Type 0} (p : Y → Bool) (f : X → Option Y) (o : Option X) → ((x : X) → IsAll p (f x)) → IsAll p (option_and_then f o)
and_then_all p f None each = refl
and_then_all p f (Some x) each = each x

map_all : {X Y : Type 0} (p : Y → Bool) (f : X → Y) (o : Option X) → ((x : X) → p (f x) ≡ true) → IsAll p (option_map f o)
map_all p f None each = refl
map_all p f (Some x) each = each x

if_all : {X : Type 0} (p : X → Bool) (c : Bool) (o : Option X) → IsAll p o → IsAll p (if c then o else None)
if_all p true o all = all
if_all p false o all = refl

of_kind : (kind : Kind) (usable : ℕ) (bytes : List ℕ) → IsAll (cell_for (family_of kind)) (cell_of kind usable bytes)
of_kind TableLeaf usable bytes =
    and_then_all _ _ (sized bytes) (λ size. and_then_all _ _ (keyed size.1) (λ k. map_all _ _ (stored_of Table usable size.0 k.1) (λ stored. refl)))
of_kind TableInterior usable bytes = and_then_all _ _ (childed bytes) (λ left. map_all _ _ (keyed left.1) (λ k. refl))
of_kind IndexLeaf usable bytes = and_then_all _ _ (sized bytes) (λ size. map_all _ _ (stored_of Index usable size.0 size.1) (λ stored. refl))
of_kind IndexInterior usable bytes =
    and_then_all _ _ (childed bytes) (λ left. and_then_all _ _ (sized left.1) (λ size. map_all _ _ (stored_of Index usable size.0 size.1) (λ stored. refl)))

both : (a b : Bool) → a ≡ true → b ≡ true → (a && b) ≡ true
both a b is too = rw (is, too) refl

of_first : {X : Type 0} (p : X → Bool) (o : Option X) (rest : List X) → IsAll p o → list_all p rest ≡ true → list_all p (cons_option o rest) ≡ true
of_first p None rest one others = others
of_first p (Some x) rest one others = both (p x) (list_all p rest) one others

cells_all : (p : Cell → Bool) (f : ℕ → Option Cell) (ns : List ℕ) → ((n : ℕ) → IsAll p (f n)) → list_all p (filter_map (λ c. c) (map f ns)) ≡ true
cells_all p f [] each = refl
cells_all p f (n ∷ ns) each = of_first p (f n) (filter_map (λ c. c) (map f ns)) (each n) (cells_all p f ns each)

cell_at_for : (kind : Kind) (bytes : List ℕ) (header index : ℕ) → IsAll (cell_for (family_of kind)) (cell_at kind bytes header index)
cell_at_for kind bytes header index =
    let offset : ℕ = u16_at bytes (array_start kind header + 2 * index) in
    if_all (cell_for (family_of kind)) (nat_le (array_end kind bytes header) offset && nat_lt offset (length bytes)) _ (of_kind kind (length bytes) (drop offset bytes))

right_for : (family : Family) (right : Option ℕ) → list_all (step_for family) (steps [] right) ≡ true
right_for family None = refl
right_for family (Some n) = refl

steps_for : (family : Family) (cells : List Cell) (right : Option ℕ) → list_all (cell_for family) cells ≡ true → list_all (step_for family) (steps cells right) ≡ true
steps_for family [] right all = right_for family right
steps_for Table (table_leaf rowid stored ∷ cells) right all = steps_for Table cells right all
steps_for Table (table_interior left k ∷ cells) right all = steps_for Table cells right all
steps_for Table (index_leaf stored ∷ cells) right all = cc
steps_for Table (index_interior left stored ∷ cells) right all = cc
steps_for Index (table_leaf rowid stored ∷ cells) right all = cc
steps_for Index (table_interior left k ∷ cells) right all = cc
steps_for Index (index_leaf stored ∷ cells) right all = steps_for Index cells right all
steps_for Index (index_interior left stored ∷ cells) right all = steps_for Index cells right all

-- what was read is a page of this family
abbrev ReadFor : Family → Result Node PageFault → Type 0
ReadFor family (Err why) = Unit {0}
ReadFor family (Ok page) = list_all (step_for family) (steps page.cells page.right) ≡ true

if_read : (family : Family) (c : Bool) (one other : Result Node PageFault) → ReadFor family one → ReadFor family other → ReadFor family (if c then one else other)
if_read family true one other p q = p
if_read family false one other p q = q

kind_read : (kind : Kind) (bytes : List ℕ) (header : ℕ) → ReadFor (family_of kind) (read_kind bytes header kind)
kind_read kind bytes header =
    if_read (family_of kind) (nat_lt (length bytes) (array_end kind bytes header)) _ _ tt
    (if_read (family_of kind) (nat_lt (first_lost kind bytes header) (cell_count bytes header)) _ _ tt
    (steps_for (family_of kind) (node_at kind bytes header).cells (node_at kind bytes header).right
    (cells_all (cell_for (family_of kind)) (cell_at kind bytes header) _ (cell_at_for kind bytes header))))

same : (a b : Family) → same_family a b ≡ true → b ≡ a
same Table Table is = refl
same Table Index is = cc
same Index Table is = cc
same Index Index is = refl

any_read : (family : Family) (kind : Option Kind) (bytes : List ℕ) (header : ℕ) → is_of family kind ≡ true → ReadFor family (read_any bytes header kind)
any_read family None bytes header is = tt
any_read family (Some kind) bytes header is = rw (sym (same family (family_of kind) is)) (kind_read kind bytes header)

node_read : (family : Family) (n : ℕ) (bytes : List ℕ) → ReadFor family (read_node family n bytes)
node_read family n bytes = by_case (is_of family (kind_at n bytes)) refl
  where
    by_case : (c : Bool) → is_of family (kind_at n bytes) ≡ c → ReadFor family (read_node family n bytes)
    by_case true is = rw is (any_read family (kind_at n bytes) bytes (header_at n) is)
    by_case false is = rw is tt

-- ---- the walk

abbrev row_for : Family → Row → Bool
row_for family row = is_for family row.rowid

module _ (pages : Pages) (taken : Test) (family : Family) where
  -- every entry of these findings is one of the family
  abbrev AreFor : List Finding → Type 0
  AreFor found = list_all (row_for family) (entries found) ≡ true

  append_for : (xs ys : List Finding) → AreFor xs → AreFor ys → AreFor (xs ++ ys)
  append_for xs ys p q =
      ap (list_all (row_for family)) (entries-append xs ys) ∙ list_all-append (row_for family) (entries xs) (entries ys)
      ∙ both (list_all (row_for family) (entries xs)) (list_all (row_for family) (entries ys)) p q

  if_for : (c : Bool) (one other : List Finding) → AreFor one → AreFor other → AreFor (if c then one else other)
  if_for true one other p q = p
  if_for false one other p q = q

  link_for : (n : ℕ) (m accepted : Bool) (after : List Finding) → AreFor after → AreFor (link n m accepted after)
  link_for n true accepted after p = refl
  link_for n false false after p = refl
  link_for n false true after p = p

  chain_for : (met : List Finding) (more holder n : ℕ) → AreFor (chain pages taken met more holder n)
  chain_for met zero holder n = if_for (n == 0) _ _ refl refl
  chain_for met (suc more) holder n =
      if_for (n == 0) _ _ refl
      (if_for (is_in_range pages n) _ _
      (link_for n (is_met taken met n) (pages.accepts n) _ (chain_for (met ++ place n ∷ []) more n (u32_at (pages.page n) 0))) refl)

  chain_of_for : (met : List Finding) (n : ℕ) (stored : StoredCell) → AreFor (chain_of pages taken met n stored)
  chain_of_for met n stored =
      if_for (links_needed pages.usable stored == 0) _ _ refl
      (if_for (stored.first == 0) _ _ refl (chain_for met (links_needed pages.usable stored) n stored.first))

  order_for : (met : List Finding) (n : ℕ) (rowid : Option ℤ) → AreFor (order_faults met n rowid)
  order_for met n None = refl
  order_for met n (Some rowid) = if_for (list_any (λ k. int_le rowid k) (keys met)) _ _ refl refl

  late_for : (k : ℤ) (rows : List Row) → AreFor (late_faults k rows)
  late_for k [] = refl
  late_for k (row ∷ rows) =
      let late : Bool = option_map_or (λ rowid. int_lt k rowid) row.rowid false in
      append_for (if late then fault (RowidOrder row.page) ∷ [] else []) (late_faults k rows) (if_for late (fault (RowidOrder row.page) ∷ []) [] refl refl) (late_for k rows)

  given_for : (met : List Finding) (n : ℕ) (rowid : Option ℤ) (stored : StoredCell) → is_for family rowid ≡ true → AreFor (given pages taken met n rowid stored)
  given_for met n rowid stored is =
      let found : List Finding = chain_of pages taken met n stored in
      let row : Row = record { rowid = rowid; payload = payload_of pages stored; page = n } in
      append_for (order_faults met n rowid) _ (order_for met n rowid)
      (append_for found _ (chain_of_for met n stored) (if_for (is_sound found) (entry row ∷ []) [] (both (row_for family row) true is refl) refl))

  module _ (below : Below) (below_for : (met : List Finding) (c : ℕ) → AreFor (below met c)) where
    one_for : (met : List Finding) (n : ℕ) (s : Step) → step_for family s ≡ true → AreFor (step pages taken below met n s)
    one_for met n (child c) is = if_for (is_in_range pages c) _ _ (below_for met c) refl
    one_for met n (divider k) is = late_for k (entries met)
    one_for met n (cell rowid stored) is = given_for met n rowid stored is

    all_for : (todo : List Step) (met : List Finding) (n : ℕ) → list_all (step_for family) todo ≡ true → AreFor (steps_of pages taken below met n todo)
    all_for [] met n are = refl
    all_for (s ∷ todo) met n are =
        let found : List Finding = step pages taken below met n s in
        append_for found _ (one_for met n s (and_left (step_for family s) (list_all (step_for family) todo) are))
        (all_for todo (met ++ found) n (and_right (step_for family s) (list_all (step_for family) todo) are))

    inside_for : (met : List Finding) (n : ℕ) (reading : Result Node PageFault) → ReadFor family reading → AreFor (inside pages taken below met n reading)
    inside_for met n (Err why) is = refl
    inside_for met n (Ok page) is = all_for (steps page.cells page.right) (met ++ place n ∷ []) n is

    visit_for : (met : List Finding) (n : ℕ) (m accepted : Bool) → AreFor (visit pages family taken below met n m accepted)
    visit_for met n true accepted = refl
    visit_for met n false false = refl
    visit_for met n false true = inside_for met n (read_node family n (pages.page n)) (node_read family n (pages.page n))

  deep_for : (n : ℕ) (m : Bool) → AreFor (place n ∷ too_deep n m)
  deep_for n true = refl
  deep_for n false = refl

  walk_for : (left : ℕ) (met : List Finding) (n : ℕ) → AreFor (walk pages family taken left met n)
  unfolding walk
  walk_for zero met n = deep_for n (is_met taken met n)
  walk_for (suc left) met n = visit_for (walk pages family taken left) (walk_for left) met n (is_met taken met n) (pages.accepts n)

  one_of : (before more : List Row) (row : Row) → list_all (row_for family) (before ++ row ∷ more) ≡ true → is_for family row.rowid ≡ true
  one_of [] more row all = and_left (is_for family row.rowid) (list_all (row_for family) more) all
  one_of (other ∷ before) more row all = one_of before more row (and_right (row_for family other) (list_all (row_for family) (before ++ row ∷ more)) all)

  -- an entry that is given is one of the family of its walk
  pub given_is_for : (root : ℕ) (before more : List Row) (row : Row) → entries (tree_walk pages family taken root) ≡ before ++ row ∷ more → is_for family row.rowid ≡ true
  given_is_for root before more row order = one_of before more row (ap (list_all (row_for family)) (sym order) ∙ walk_for 20 [] root)
