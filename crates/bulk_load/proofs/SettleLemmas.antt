-- A child goes on a page, or the page is closed with it.
use Rattle.std.proofs.Common.{◌≡◌, ℕ, suc, ℤ, true, List, [], ◌∷◌, ◌++◌, ◌==◌, Option, Some, None, map, drop, length, replicate, ◌-◌, refl, ap, sym, subst, ◌∙◌}
use Rattle.std.specs.List.{list_all, list_any}
use Rattle.std.proofs.lemmas.List.{append_assoc, append-nil}
use Rattle.btree_page.specs.declared.kind.Family.{Family}
use Rattle.btree_page.specs.declared.kind.Kind.{Kind}
use Rattle.btree_page.specs.declared.kind.Kind.TheVariants.{IndexInterior, TableInterior, IndexLeaf, TableLeaf}
use Rattle.btree_page.specs.Cell.{StoredCell, Cell, cell_of, table_leaf, table_interior, index_leaf, index_interior}
use Rattle.db_format.specs.Pages.{Pages, nothing}
use Rattle.btree_model.specs.Finding.{Finding, places, keys, entries, is_sound}
use Rattle.btree_page.specs.Step.{Step, child, divider, entry as cell, steps}
use Rattle.btree_model.specs.Walk.{step, walk}
use Rattle.btree_model.specs.Content.{Entry, entry_of}
use Rattle.load_model.specs.Open.{Open, raise, open_found, at_height}
use Rattle.load_model.specs.Stands.{OpenPagesStand, is_at_most}
use Rattle.page_build.specs.Written.{IsCellWritten, AreWritten, padded, right_child, four_bytes}
use Rattle.btree_page.specs.Kind.{family_of, is_interior}
use Rattle.load_model.proofs.OpenLemmas.{open-append}
use Rattle.page_build.specs.Draft.{Draft, with_cell, without_cells}
use Rattle.bulk_load.specs.declared.pair.Pair.{Pair}
use Rattle.bulk_load.specs.Close.{HasCells}
use Rattle.bulk_load.specs.Settle.{is_between, may_stand, up_kind, skip_of, on, interior_cell, cell_on, two, IsPair}

pub steps_right : (cells : List Cell) (n : ℕ) → steps cells (Some n) ≡ steps cells None ++ child n ∷ []
steps_right [] n = refl
steps_right (table_leaf rowid stored ∷ cells) n = ap (λ l. cell (Some rowid) stored ∷ l) (steps_right cells n)
steps_right (table_interior left k ∷ cells) n = ap (λ l. child left ∷ (divider k ∷ l)) (steps_right cells n)
steps_right (index_leaf stored ∷ cells) n = ap (λ l. cell None stored ∷ l) (steps_right cells n)
steps_right (index_interior left stored ∷ cells) n = ap (λ l. child left ∷ (cell None stored ∷ l)) (steps_right cells n)

steps_one : (n : ℕ) (s : Step) → is_between s ≡ true → steps (interior_cell n s ∷ []) None ≡ child n ∷ s ∷ []
steps_one n (child m) h = cc
steps_one n (divider k) h = refl
steps_one n (cell None stored) h = refl
steps_one n (cell (Some rowid) stored) h = cc

pub steps_more : (cells : List Cell) (n : ℕ) (s : Step) → is_between s ≡ true → steps (cells ++ interior_cell n s ∷ []) None ≡ steps cells None ++ child n ∷ s ∷ []
steps_more [] n s h = steps_one n s h
steps_more (table_leaf rowid stored ∷ cells) n s h = ap (λ l. cell (Some rowid) stored ∷ l) (steps_more cells n s h)
steps_more (table_interior left k ∷ cells) n s h = ap (λ l. child left ∷ (divider k ∷ l)) (steps_more cells n s h)
steps_more (index_leaf stored ∷ cells) n s h = ap (λ l. cell None stored ∷ l) (steps_more cells n s h)
steps_more (index_interior left stored ∷ cells) n s h = ap (λ l. child left ∷ (cell None stored ∷ l)) (steps_more cells n s h)

pub at_height-append : (h : ℕ) (xs ys : List Step) → at_height h (xs ++ ys) ≡ at_height h xs ++ at_height h ys
at_height-append h [] ys = refl
at_height-append h (x ∷ xs) ys = ap (λ l. record { height = h; leads = x } ∷ l) (at_height-append h xs ys)

pub written_more : (kind : Kind) (usable : ℕ) (raws : List (List ℕ)) (cells : List Cell) (raw : List ℕ) (one : Cell) → AreWritten kind usable raws cells
    → IsCellWritten kind usable raw one → AreWritten kind usable (raws ++ raw ∷ []) (cells ++ one ∷ [])
written_more kind usable [] [] raw one h g = (g, tt)
written_more kind usable [] (c ∷ cells) raw one h g = absurd h
written_more kind usable (r ∷ raws) [] raw one h g = absurd h
written_more kind usable (r ∷ raws) (c ∷ cells) raw one h g = (h.0, written_more kind usable raws cells raw one h.1 g)

pub right_is : (kind : Kind) (n : ℕ) → is_interior kind ≡ true → right_child kind n ≡ Some n
right_is TableLeaf n h = cc
right_is IndexLeaf n h = cc
right_is TableInterior n h = refl
right_is IndexInterior n h = refl

-- what stands between children has no height
step_moves : (pages : Pages) (family : Family) (slack h k : ℕ) (met : List Finding) (s : Step) → is_between s ≡ true
    → step pages nothing (walk pages family nothing (raise slack h)) met 0 s ≡ step pages nothing (walk pages family nothing (raise slack k)) met 0 s
step_moves pages family slack h k met (child n) between = cc
step_moves pages family slack h k met (divider j) between = refl
step_moves pages family slack h k met (cell rowid stored) between = refl

moved_found : (pages : Pages) (family : Family) (slack h k : ℕ) (front back : List Open) (s : Step) → is_between s ≡ true
    → open_found pages family slack [] (front ++ (record { height = k; leads = s } ∷ back)) ≡ open_found pages family slack [] (front ++ (record { height = h; leads = s } ∷ back))
moved_found pages family slack h k front back s between =
    let met : List Finding = open_found pages family slack [] front in
    open-append pages family slack [] front (record { height = k; leads = s } ∷ back)
    ∙ ap (λ l. met ++ (l ++ open_found pages family slack (met ++ l) back)) (step_moves pages family slack k h met s between)
    ∙ sym (open-append pages family slack [] front (record { height = h; leads = s } ∷ back))

pub move_stands : (pages : Pages) (family : Family) (last : Option ℤ) (h k : ℕ) (front back : List Open) (s : Step) (pushed : List Entry) → is_between s ≡ true
    → OpenPagesStand pages family last (front ++ (record { height = h; leads = s } ∷ back)) pushed → OpenPagesStand pages family last (front ++ (record { height = k; leads = s } ∷ back)) pushed
move_stands pages family last h k front back s pushed between st = record {
  sound = λ slack. ap is_sound (moved_found pages family slack h k front back s between) ∙ st.sound slack;
  gives = λ slack. ap (λ l. map entry_of (entries l)) (moved_found pages family slack h k front back s between) ∙ st.gives slack;
  put = λ slack. ap (λ l. list_all pages.accepts (places l)) (moved_found pages family slack h k front back s between) ∙ st.put slack;
  order = λ slack. ap (λ l. list_all (is_at_most last) (keys l)) (moved_found pages family slack h k front back s between) ∙ st.order slack;
  whole = λ slack n put. ap (λ l. list_any (λ m. m == n) (places l)) (moved_found pages family slack h k front back s between) ∙ st.whole slack n put;
}

-- the page is closed, and what stood behind its last child stands behind it
pub closed_then : (pages : Pages) (family : Family) (last : Option ℤ) (front back : List Open) (pushed : List Entry) (h m : ℕ) (s : Step) → is_between s ≡ true
    → OpenPagesStand pages family last (front ++ (record { height = suc h; leads = child m } ∷ (record { height = h; leads = s } ∷ back))) pushed
    → OpenPagesStand pages family last (front ++ (two (suc h) m s ++ back)) pushed
closed_then pages family last front back pushed h m s between st =
    let front' : List Open = front ++ record { height = suc h; leads = child m } ∷ [] in
    subst (λ l. OpenPagesStand pages family last l pushed) (append_assoc front (record { height = suc h; leads = child m } ∷ []) (record { height = suc h; leads = s } ∷ back))
    (move_stands pages family last h (suc h) front' back s pushed between
    (subst (λ l. OpenPagesStand pages family last l pushed) (sym (append_assoc front (record { height = suc h; leads = child m } ∷ []) (record { height = h; leads = s } ∷ back))) st))

-- the pair with another child
pub named : (items old : List ℕ) (m k : ℕ) → items ≡ four_bytes m ++ drop 4 old → k ≡ m → items ≡ four_bytes k ++ drop 4 items
named items old m k is same = is ∙ ap (λ n. four_bytes n ++ drop 4 old) (sym same) ∙ ap (λ l. four_bytes k ++ l) (ap (drop 4) (sym is))

pub rest_named : (items old : List ℕ) (m : ℕ) → items ≡ four_bytes m ++ drop 4 old → drop 4 items ≡ drop 4 old
rest_named items old m is = ap (drop 4) is

pub steps_entry : (cells : List Cell) (stored : StoredCell) → steps (cells ++ index_leaf stored ∷ []) None ≡ steps cells None ++ cell None stored ∷ []
steps_entry [] stored = refl
steps_entry (table_leaf rowid s ∷ cells) stored = ap (λ l. cell (Some rowid) s ∷ l) (steps_entry cells stored)
steps_entry (table_interior left k ∷ cells) stored = ap (λ l. child left ∷ (divider k ∷ l)) (steps_entry cells stored)
steps_entry (index_leaf s ∷ cells) stored = ap (λ l. cell None s ∷ l) (steps_entry cells stored)
steps_entry (index_interior left s ∷ cells) stored = ap (λ l. child left ∷ (cell None s ∷ l)) (steps_entry cells stored)

pub may_between : (kind : Kind) (s : Step) → may_stand kind s ≡ true → is_between s ≡ true
may_between TableLeaf s h = cc
may_between IndexLeaf (child n) h = cc
may_between IndexLeaf (divider k) h = cc
may_between IndexLeaf (cell None stored) h = refl
may_between IndexLeaf (cell (Some rowid) stored) h = cc
may_between TableInterior s h = h
may_between IndexInterior s h = h

pub may_up : (kind : Kind) (s : Step) → may_stand kind s ≡ true → may_stand (up_kind kind) s ≡ true
may_up TableLeaf s h = cc
may_up IndexLeaf s h = may_between IndexLeaf s h
may_up TableInterior s h = h
may_up IndexInterior s h = h

pub family_up : (kind : Kind) → family_of (up_kind kind) ≡ family_of kind
family_up TableLeaf = refl
family_up IndexLeaf = refl
family_up TableInterior = refl
family_up IndexInterior = refl

pub up_same : (kind : Kind) → is_interior kind ≡ true → up_kind kind ≡ kind
up_same TableLeaf h = cc
up_same IndexLeaf h = cc
up_same TableInterior h = refl
up_same IndexInterior h = refl

pub up_interior : (kind : Kind) → is_interior (up_kind kind) ≡ true
up_interior TableLeaf = refl
up_interior IndexLeaf = refl
up_interior TableInterior = refl
up_interior IndexInterior = refl

pub on_interior : (kind : Kind) (n : ℕ) (s : Step) → is_interior kind ≡ true → on kind n s ≡ child n ∷ s ∷ []
on_interior TableLeaf n s h = cc
on_interior IndexLeaf n s h = cc
on_interior TableInterior n s h = refl
on_interior IndexInterior n s h = refl

steps_on : (kind : Kind) (cells : List Cell) (n : ℕ) (s : Step) → may_stand kind s ≡ true → steps (cells ++ cell_on kind n s ∷ []) None ≡ steps cells None ++ on kind n s
steps_on TableLeaf cells n s h = cc
steps_on IndexLeaf cells n (child m) h = cc
steps_on IndexLeaf cells n (divider k) h = cc
steps_on IndexLeaf cells n (cell None stored) h = steps_entry cells stored
steps_on IndexLeaf cells n (cell (Some rowid) stored) h = cc
steps_on TableInterior cells n s h = steps_more cells n s h
steps_on IndexInterior cells n s h = steps_more cells n s h

-- the pair goes on the page
pub on_page : (kind : Kind) (cells : List Cell) (n h : ℕ) (s : Step) (front back : List Open) → may_stand kind s ≡ true
    → front ++ (at_height h (steps cells None) ++ (at_height h (on kind n s) ++ back)) ≡ front ++ (at_height h (steps (cells ++ cell_on kind n s ∷ []) None) ++ back)
on_page kind cells n h s front back may =
    ap (λ l. front ++ l)
    (sym (append_assoc (at_height h (steps cells None)) (at_height h (on kind n s)) back) ∙ ap (λ l. l ++ back) (sym (at_height-append h (steps cells None) (on kind n s)))
    ∙ ap (λ l. at_height h l ++ back) (sym (steps_on kind cells n s may)))

-- its child is the page's last
last_child : (cells : List Cell) (n h : ℕ) (s : Step) (front back : List Open)
    → front ++ (at_height h (steps cells None) ++ (two h n s ++ back)) ≡ front ++ (at_height h (steps cells (Some n)) ++ (record { height = h; leads = s } ∷ back))
last_child cells n h s front back =
    ap (λ l. front ++ l)
    (sym (append_assoc (at_height h (steps cells None)) (record { height = h; leads = child n } ∷ []) (record { height = h; leads = s } ∷ back))
    ∙ ap (λ l. l ++ (record { height = h; leads = s } ∷ back)) (sym (at_height-append h (steps cells None) (child n ∷ [])))
    ∙ ap (λ l. at_height h l ++ (record { height = h; leads = s } ∷ back)) (sym (steps_right cells n)))

pub as_last : (kind : Kind) (cells : List Cell) (n h : ℕ) (s : Step) (front back : List Open)
    → front ++ (at_height h (steps cells None) ++ (at_height h (on kind n s) ++ back)) ≡ front ++ (at_height h (steps cells (right_child kind n)) ++ (record { height = h; leads = s } ∷ back))
as_last TableLeaf cells n h s front back = refl
as_last IndexLeaf cells n h s front back = refl
as_last TableInterior cells n h s front back = last_child cells n h s front back
as_last IndexInterior cells n h s front back = last_child cells n h s front back

-- the last child of a page that ends
pub with_last : (kind : Kind) (cells : List Cell) (n h : ℕ) → at_height h (steps cells None) ++ at_height h (steps [] (right_child kind n)) ≡ at_height h (steps cells (right_child kind n))
with_last TableLeaf cells n h = append-nil (at_height h (steps cells None))
with_last IndexLeaf cells n h = append-nil (at_height h (steps cells None))
with_last TableInterior cells n h = sym (ap (at_height h) (steps_right cells n) ∙ at_height-append h (steps cells None) (child n ∷ []))
with_last IndexInterior cells n h = sym (ap (at_height h) (steps_right cells n) ∙ at_height-append h (steps cells None) (child n ∷ []))

up_here : (kind : Kind) (usable n : ℕ) (rest : List ℕ) (s : Step) → IsCellWritten (up_kind kind) usable (four_bytes n ++ rest) (interior_cell n s)
    → IsCellWritten (up_kind kind) usable (drop (skip_of (up_kind kind)) (four_bytes n ++ rest)) (cell_on (up_kind kind) n s)
up_here TableLeaf usable n rest s h = h
up_here IndexLeaf usable n rest s h = h
up_here TableInterior usable n rest s h = h
up_here IndexInterior usable n rest s h = h

up_again : (kind : Kind) (usable n : ℕ) (rest : List ℕ) (s : Step) → IsCellWritten (up_kind kind) usable (four_bytes n ++ rest) (interior_cell n s)
    → IsCellWritten (up_kind (up_kind kind)) usable (four_bytes n ++ rest) (interior_cell n s)
up_again TableLeaf usable n rest s h = h
up_again IndexLeaf usable n rest s h = h
up_again TableInterior usable n rest s h = h
up_again IndexInterior usable n rest s h = h

-- the same behind another child, a level higher
pub pair_up : (kind : Kind) (usable : ℕ) (s : Step) (before after : Pair) (m : ℕ) → IsPair before kind usable s → after.cell.items ≡ four_bytes m ++ drop 4 before.cell.items
    → after.child ≡ m → IsPair after (up_kind kind) usable s
pair_up kind usable s before after m is renamed same =
    let rest : drop 4 after.cell.items ≡ drop 4 before.cell.items = rest_named after.cell.items before.cell.items m renamed in
    record {
      may = may_up kind s is.may;
      names = named after.cell.items before.cell.items m after.child renamed same;
      here = λ n. up_here kind usable n (drop 4 after.cell.items) s (subst (λ l. IsCellWritten (up_kind kind) usable (four_bytes n ++ l) (interior_cell n s)) (sym rest) (is.up n));
      up = λ n. up_again kind usable n (drop 4 after.cell.items) s (subst (λ l. IsCellWritten (up_kind kind) usable (four_bytes n ++ l) (interior_cell n s)) (sym rest) (is.up n));
    }

-- bytes behind a cell that is read are not looked at
pub padded_written : (kind : Kind) (usable : ℕ) (raw : List ℕ) (one : Cell) → IsCellWritten kind usable raw one → IsCellWritten kind usable (padded raw) one
padded_written kind usable raw one is = record {
  reads = λ rest. ap (cell_of kind usable) (append_assoc raw (replicate (4 - length raw) 0) rest) ∙ is.reads (replicate (4 - length raw) 0 ++ rest);
}

-- the page with one cell more
pub cells_more : (page : Draft) (usable : ℕ) (cells : List Cell) (raw : List ℕ) (one : Cell) → HasCells page usable cells → IsCellWritten page.kind usable raw one
    → HasCells (with_cell page raw) usable (cells ++ one ∷ [])
cells_more page usable cells raw one has is = record {
  size = has.size;
  written =
      written_more page.kind page.usable page.cells cells (padded raw) one has.written
      (padded_written page.kind page.usable raw one (subst (λ u. IsCellWritten page.kind u raw one) (sym has.size) is));
}

-- and without any
pub cells_none : (page : Draft) (usable : ℕ) → page.usable ≡ usable → HasCells (without_cells page) usable []
cells_none page usable size = record { size = size; written = tt }
