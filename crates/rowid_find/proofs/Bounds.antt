-- On the way to one rowid there is one path.
use Rattle.std.proofs.Common.{◌≡◌, ◌≤◌, ◌+◌, ℕ, zero, suc, ℤ, Bool, true, false, List, [], ◌∷◌, length, ◌==◌, Option, Some, None, Result, Ok, Err, if◌then◌else◌, arith, refl, ap, subst, ◌∙◌}
use Rattle.std.specs.Prelude.{int_le, int_lt}
use Rattle.db_format.specs.declared.defect.Defect.TheVariants.{ChildOutOfRange}
use Rattle.db_format.specs.Bytes.{u32_at}
use Rattle.db_format.specs.Pages.{Pages, nothing}
use Rattle.db_format.specs.Record.{columns}
use Rattle.db_format.specs.Value.{Datum}
use Rattle.btree_page.specs.declared.kind.Family.TheVariants.{Table}
use Rattle.btree_page.specs.declared.page.PageFault.{PageFault}
use Rattle.btree_page.specs.Cell.{Cell, StoredCell, table_leaf, table_interior, index_leaf, index_interior}
use Rattle.btree_page.specs.Page.{Node, read_node}
use Rattle.btree_page.specs.Step.{Step, child, entry as cell}
use Rattle.btree_model.specs.Finding.{Row, Finding, place, fault, refused, places, is_sound}
use Rattle.btree_model.specs.Range.{is_in_range}
use Rattle.btree_model.specs.Walk.{links_needed, payload_of}
use Rattle.rowid_find.specs.declared.error.FindError.{FindError}
use Rattle.rowid_find.specs.declared.error.FindError.TheVariants.{Walk, OutputFault}
use Rattle.rowid_find.specs.Bound.{links_below, links_in, links_on}
use Rattle.rowid_find.specs.Reach.{all_steps, chain_findings, links_of, one_step, page_steps, reach, reach_all, reach_range, row_at, row_found, row_of_cell}
use Rattle.rowid_find.specs.Search.{AreRowsFound}
use Rattle.rowid_find.specs.Wanted.{children_to, is_between, wanted}
use Rattle.rowid_find.proofs.OnceLemmas.{once_fewer}
use Rattle.rowid_find.proofs.SearchSteps.{places_both}

if_most : (b : Bool) (one other : List Finding) (most : ℕ) → length (places one) ≤ most → length (places other) ≤ most → length (places (if b then one else other)) ≤ most
if_most true one other most p q = p
if_most false one other most p q = q

one_more : (most : ℕ) (b : Bool) (n : ℕ) (rest : List Finding) → length (places rest) ≤ most → length (places (place n ∷ (if b then rest else refused n ∷ []))) ≤ suc most
one_more most true n rest p = omega (arith, p)
one_more most false n rest p = omega arith

no_place : (row : Row) (read : Option (List Datum)) → length (places (row_found row read)) ≡ 0
no_place row None = refl
no_place row (Some values) = refl

module _ (pages : Pages) where
  links_most : (more holder n : ℕ) → length (places (chain_findings pages more holder n)) ≤ more
  links_most zero holder n = if_most (n == 0) _ _ 0 (omega arith) (omega arith)
  links_most (suc more) holder n =
      let next = links_most more n (u32_at (pages.page n) 0) in
      if_most (n == 0) _ _ (suc more) (omega arith)
      (if_most (is_in_range pages n) _ _ (suc more)
      (one_more more (pages.accepts n) n _ next)
      (omega arith))

  links_of_by : (n : ℕ) (stored : StoredCell) (needed : ℕ) (b : Bool) (c : Bool)
      → length (places (if b then [] else (if c then fault (ChildOutOfRange n) ∷ [] else chain_findings pages needed n stored.first))) ≤ needed
  links_of_by n stored needed b c =
      if_most b _ _ needed (omega arith) (if_most c _ _ needed (omega arith) (links_most needed n stored.first))

  row_most : (n : ℕ) (rowid : Option ℤ) (stored : StoredCell) → length (places (row_of_cell pages n rowid stored)) ≤ links_needed pages.usable stored
  row_most n rowid stored =
      let found : List Finding = links_of pages n stored in
      let last : List Finding = if is_sound found then row_found (row_at pages n rowid stored) (columns (payload_of pages stored)) else [] in
      let both = places_both found last in
      let first : length (places found) ≤ links_needed pages.usable stored = links_of_by n stored (links_needed pages.usable stored) (links_needed pages.usable stored == 0) (stored.first == 0) in
      let none : length (places last) ≤ 0 =
      if_most (is_sound found) _ _ 0 (let is = no_place (row_at pages n rowid stored) (columns (payload_of pages stored)) in omega (arith, is)) (omega arith) in
      omega (arith, both, first, none)

  module _ (k : ℤ) (left : ℕ) (below : ℕ → List Finding) (needs : ℕ → ℕ) (each : (c : ℕ) → length (places (below c)) ≤ left + needs c) where
    child_by : (n c : ℕ) (b : Bool) → length (places (if b then below c else fault (ChildOutOfRange n) ∷ [])) ≤ left + needs c
    child_by n c true = each c
    child_by n c false = omega arith

    -- one child and no more
    child_most : (n c : ℕ) → length (places (all_steps pages below n (child c ∷ []))) ≤ left + links_in pages needs (child c ∷ [])
    child_most n c =
        let one = child_by n c (is_in_range pages c) in
        let both = places_both (one_step pages below n (child c)) [] in
        omega (arith, one, both)

    row_or_none : (n : ℕ) (r : ℤ) (stored : StoredCell) (rest : List Step) (b : Bool) → length (places (all_steps pages below n rest)) ≤ left + links_in pages needs rest
        → length (places (all_steps pages below n (if b then cell (Some r) stored ∷ rest else rest))) ≤ left + links_in pages needs (if b then cell (Some r) stored ∷ rest else rest)
    row_or_none n r stored rest false on = on
    row_or_none n r stored rest true on =
        let one = row_most n (Some r) stored in
        let both = places_both (row_of_cell pages n (Some r) stored) (all_steps pages below n rest) in
        omega (arith, one, both, on)

    key_most : (n l : ℕ) (key : ℤ) (cells : List Cell) (right : Option ℕ) (b : Bool) → int_le k key ≡ b
        → length (places (all_steps pages below n (wanted k k cells right))) ≤ left + links_in pages needs (wanted k k cells right)
        → length (places (all_steps pages below n (if b then children_to k (table_interior l key ∷ cells) right else wanted k k cells right)))
        ≤ left + links_in pages needs (if b then children_to k (table_interior l key ∷ cells) right else wanted k k cells right)
    key_most n l key cells right false is on = on
    key_most n l key cells right true is on = rw is (child_most n l)

    wanted_most : (n : ℕ) (cells : List Cell) (right : Option ℕ)
        → length (places (all_steps pages below n (wanted k k cells right))) ≤ left + links_in pages needs (wanted k k cells right)
    wanted_most n [] None = omega arith
    wanted_most n [] (Some right) = child_most n right
    wanted_most n (table_leaf r stored ∷ cells) right = row_or_none n r stored (wanted k k cells right) (is_between k k r) (wanted_most n cells right)
    wanted_most n (table_interior l key ∷ cells) right = key_most n l key cells right (int_le k key) refl (wanted_most n cells right)
    wanted_most n (index_leaf stored ∷ cells) right = wanted_most n cells right
    wanted_most n (index_interior l stored ∷ cells) right = wanted_most n cells right

    page_most : (n : ℕ) (read : Result Node PageFault) → length (places (page_steps pages k k below n read)) ≤ left + links_on pages k k needs read
    page_most n (Err why) = omega arith
    page_most n (Ok page) = wanted_most n page.cells page.right

  -- the pages that are asked for: one path, and overflow pages
  pub reach_most : (k : ℤ) (left n : ℕ) → length (places (reach pages k k left n)) ≤ left + links_below pages k k left n
  unfolding reach links_below
  reach_most k zero n = omega arith
  reach_most k (suc left) n =
      let sum : suc (left + links_on pages k k (links_below pages k k left) (read_node Table n (pages.page n)))
      ≡ suc left + links_on pages k k (links_below pages k k left) (read_node Table n (pages.page n)) = omega arith in
      subst (λ m. length (places (reach pages k k (suc left) n)) ≤ m) sum
      (one_more (left + links_on pages k k (links_below pages k k left) (read_node Table n (pages.page n))) (pages.accepts n) n
      (page_steps pages k k (reach pages k k left) n (read_node Table n (pages.page n)))
      (page_most k left (reach pages k k left) (links_below pages k k left) (reach_most k left) n (read_node Table n (pages.page n))))

-- no more pages were read than were met
read_most : {R : Type 0} (refuses : Pages → ℕ → R → Type 0) (pages : Pages) (tells : Bool) (all : List Finding) (before after : List ℕ) (reads later : ℕ)
    (result : Result ℕ (FindError R)) → AreRowsFound refuses pages tells all before after reads later result → later ≤ reads + length (places all)
read_most refuses pages tells all before after reads later (Ok rows) at = at.few
read_most refuses pages tells all before after reads later (Err (Walk error)) at =
    let few = at.few in
    let met = ap (λ l. length (places l)) at.whole ∙ places_both at.found at.more in
    omega (arith, few, met)
read_most refuses pages tells all before after reads later (Err OutputFault) at =
    let few = at.few in
    let met = ap (λ l. length (places l)) at.whole ∙ places_both at.found at.more in
    omega (arith, few, met)

all_most : (pages : Pages) (low high : ℤ) (root : ℕ) → low ≡ high → length (places (reach_all pages low high root)) ≤ 20 + links_below pages low high 20 root
all_most pages low high root same =
    subst (λ k. length (places (reach_all pages low k root)) ≤ 20 + links_below pages low k 20 root) same
    (let most = if_most (int_lt low low) [] (reach pages low low 20 root) (20 + links_below pages low low 20 root) (omega arith) (reach_most pages low 20 root) in
    let fewer = once_fewer nothing (reach_range pages low low root) in
    omega (arith, most, fewer))

pub one_rowid : {R : Type 0} (refuses : Pages → ℕ → R → Type 0) (pages : Pages) (low high : ℤ) (root : ℕ) (tells : Bool) (before after : List ℕ) (reads later : ℕ)
    (result : Result ℕ (FindError R)) → low ≡ high → AreRowsFound refuses pages tells (reach_all pages low high root) before after reads later result
    → later ≤ reads + 20 + links_below pages low high 20 root
one_rowid refuses pages low high root tells before after reads later result same at =
    let few = read_most refuses pages tells (reach_all pages low high root) before after reads later result at in
    let most = all_most pages low high root same in
    omega (arith, few, most)
