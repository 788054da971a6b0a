-- The leaf of a table: nothing waits there.
use Rattle.std.proofs.Common.{◌≡◌, ◌≤◌, length, drop, ℕ, ℤ, true, false, List, [], ◌∷◌, ◌++◌, Option, Some, None, refl, ap, sym, subst, ◌∙◌}
use Rattle.std.proofs.lemmas.List.{append-nil, append_assoc}
use Rattle.btree_page.specs.declared.kind.Family.TheVariants.{Table}
use Rattle.btree_page.specs.declared.kind.Kind.{Kind}
use Rattle.btree_page.specs.declared.kind.Kind.TheVariants.{TableLeaf, TableInterior}
use Rattle.btree_page.specs.Cell.{Cell, StoredCell, table_leaf, table_interior, index_leaf, index_interior}
use Rattle.btree_page.specs.Payload.{local_len}
use Rattle.db_format.specs.Pages.{Pages}
use Rattle.btree_page.specs.Step.{Step, steps, divider, child, entry as cell}
use Rattle.btree_model.specs.Content.{Entry}
use Rattle.load_model.specs.Open.{Open, at_height, open_found}
use Rattle.load_model.specs.Stands.{IsNonePut, OpenPagesStand, StandsBut, is_at_most}
use Rattle.page_build.specs.Written.{IsCellWritten}
use Rattle.btree_page.specs.Kind.{family_of}
use Rattle.load_model.proofs.RootLemmas.{nothing_stands}
use Rattle.load_model.proofs.EntryLemmas.{cell_stands}
use Rattle.btree_model.specs.Finding.{places}
use Rattle.std.specs.List.{list_all}
use Rattle.bulk_load.specs.Chain.{IsPutChain}
use Rattle.page_build.specs.Draft.{Draft, with_cell}
use Rattle.bulk_load.specs.declared.pair.Pair.{Pair}
use Rattle.bulk_load.specs.declared.level.Level.{Level}
use Rattle.bulk_load.specs.Close.{HasCells}
use Rattle.bulk_load.specs.Leaf.{HasCellRoom}
use Rattle.bulk_load.specs.Settle.{IsPair, may_stand, up_kind, two}
use Rattle.bulk_load.specs.Level.{ArePairs, waiting_steps}
use Rattle.bulk_load.specs.Levels.{opened, HoldLevels, AreOpen}
use Rattle.bulk_load.specs.Loader.{LoadedAs, stored_as}
use Rattle.bulk_load.proofs.SettleLemmas.{cells_more, at_height-append}
use Rattle.bulk_load.proofs.PushLemmas.{chain_put, chain_apart}
use Rattle.bulk_load.proofs.LevelsLemmas.{Climbs}

none_waits : (items : List Pair) (kind : Kind) (usable : ℕ) (between : List Step) → kind ≡ TableLeaf → ArePairs items kind usable between → items ≡ []
none_waits [] kind usable between is h = refl
none_waits (p ∷ ps) kind usable [] is h = absurd h
none_waits (p ∷ ps) kind usable (s ∷ ss) is h = let never : false ≡ true = sym (ap (λ k. may_stand k s) is) ∙ h.0.may in cc

-- what the open pages of a table have
pub record Rows (pages : Pages) (leaf : Level) (levels : List Level) (last : Option ℤ) (pushed : List Entry) : Type 0 where
  pub cells : List Cell
  pub todos : List (List Step)
  pub is_kind : leaf.page.kind ≡ TableLeaf
  pub none : leaf.waiting.items ≡ []
  pub has : HasCells leaf.page pages.usable cells
  pub above : HoldLevels levels pages.usable TableInterior todos
  pub stands : OpenPagesStand pages Table last (opened 1 todos ++ at_height 0 (steps cells None)) pushed

pub rows_of : (pages : Pages) (leaf : Level) (levels : List Level) (last : Option ℤ) (pushed : List Entry) → LoadedAs pages leaf levels TableLeaf last pushed → Rows pages leaf levels last pushed
rows_of pages leaf levels last pushed l =
    let none : leaf.waiting.items ≡ [] = none_waits leaf.waiting.items leaf.page.kind pages.usable l.hold.between l.is_kind l.hold.pairs in
    let todo : l.todo ≡ steps l.hold.cells None = l.hold.is ∙ ap (λ i. steps l.hold.cells None ++ waiting_steps leaf.page.kind i l.hold.between) none ∙ append-nil (steps l.hold.cells None) in
    record {
      cells = l.hold.cells;
      todos = l.todos;
      is_kind = l.is_kind;
      none = none;
      has = l.hold.has;
      above = l.above;
      stands = subst (λ t. OpenPagesStand pages Table last (opened 1 l.todos ++ t) pushed) (append-nil (at_height 0 l.todo) ∙ ap (at_height 0) todo) l.stands;
    }

pub rows_loaded : (pages : Pages) (leaf : Level) (levels : List Level) (last : Option ℤ) (pushed : List Entry) → Rows pages leaf levels last pushed → LoadedAs pages leaf levels TableLeaf last pushed
rows_loaded pages leaf levels last pushed r = record {
  todo = steps r.cells None;
  todos = r.todos;
  is_kind = r.is_kind;
  hold = record {
    cells = r.cells;
    between = [];
    has = r.has;
    pairs = subst (λ i. ArePairs i leaf.page.kind pages.usable []) (sym r.none) tt;
    is = sym (ap (λ i. steps r.cells None ++ waiting_steps leaf.page.kind i []) r.none ∙ append-nil (steps r.cells None));
  };
  above = r.above;
  stands = subst (λ t. OpenPagesStand pages Table last (opened 1 r.todos ++ t) pushed) (sym (append-nil (at_height 0 (steps r.cells None)))) r.stands;
}

-- what `make_room` ensures
abbrev pub Rooms : Pages → Pages → Draft → Draft → ℤ → Option ℕ → Type 0
Rooms old new leaf after k answer =
    (cells : List Cell) (front : List Open) (pushed : List Entry) → HasCells leaf old.usable cells → OpenPagesStand old Table (Some k) (front ++ at_height 0 (steps cells None)) pushed
    → HasCellRoom new after old.usable k cells front pushed answer

pub room_none : (old new : Pages) (leaf after : Level) (levels : List Level) (k : ℤ) (pushed : List Entry) (answer : Option ℕ) → Rooms old new leaf.page after.page k answer
    → Rows old leaf levels (Some k) pushed → answer ≡ None → after.page.kind ≡ leaf.page.kind → after.waiting.items ≡ leaf.waiting.items → new.usable ≡ old.usable → Rows new after levels (Some k) pushed
room_none old new leaf after levels k pushed answer rooms r none kept waits size =
    let e : HasCellRoom new after.page old.usable k r.cells (opened 1 r.todos) pushed None =
    subst (λ a. HasCellRoom new after.page old.usable k r.cells (opened 1 r.todos) pushed a) none (rooms r.cells (opened 1 r.todos) pushed r.has r.stands)
    in
    record {
      cells = r.cells;
      todos = r.todos;
      is_kind = kept ∙ r.is_kind;
      none = waits ∙ r.none;
      has = subst (λ u. HasCells after.page u r.cells) (sym size) e.0;
      above = subst (λ u. HoldLevels levels u TableInterior r.todos) (sym size) r.above;
      stands = e.1;
    }

pub room_some : (old mid new : Pages) (leaf after : Level) (levels levels' : List Level) (k : ℤ) (pushed : List Entry) (answer : Option ℕ) (m : ℕ) (pair : Pair) → Rooms old mid leaf.page after.page k answer
    → Rows old leaf levels (Some k) pushed → answer ≡ Some m → after.page.kind ≡ leaf.page.kind → after.waiting.items ≡ leaf.waiting.items → mid.usable ≡ old.usable → new.usable ≡ old.usable
    → pair.child ≡ m → IsPair pair TableInterior old.usable (divider k) → Climbs mid new levels levels' TableInterior pair → Rows new after levels' (Some k) pushed
room_some old mid new leaf after levels levels' k pushed answer m pair rooms r some kept waits size size' named is_pair climbs =
    let e : HasCellRoom mid after.page old.usable k r.cells (opened 1 r.todos) pushed (Some m) =
    subst (λ a. HasCellRoom mid after.page old.usable k r.cells (opened 1 r.todos) pushed a) some (rooms r.cells (opened 1 r.todos) pushed r.has r.stands)
    in
    let o : AreOpen new levels' mid.usable TableInterior 1 [] (Some k) pushed =
    climbs r.todos (divider k) 1 [] (Some k) pushed refl (subst (λ u. HoldLevels levels u TableInterior r.todos) (sym size) r.above) (subst (λ u. IsPair pair TableInterior u (divider k)) (sym size) is_pair)
    (subst (λ n. OpenPagesStand mid Table (Some k) (opened 1 r.todos ++ two 1 n (divider k)) pushed) (sym named) e.1)
    in
    record {
      cells = [];
      todos = o.todos;
      is_kind = kept ∙ r.is_kind;
      none = waits ∙ r.none;
      has = subst (λ u. HasCells after.page u []) (sym size') e.0;
      above = subst (λ u. HoldLevels levels' u TableInterior o.todos) (size ∙ sym size') o.hold;
      stands = o.stands;
    }

steps_row : (cells : List Cell) (r : ℤ) (stored : StoredCell) → steps (cells ++ table_leaf r stored ∷ []) None ≡ steps cells None ++ cell (Some r) stored ∷ []
steps_row [] r stored = refl
steps_row (table_leaf q s ∷ cells) r stored = ap (λ l. cell (Some q) s ∷ l) (steps_row cells r stored)
steps_row (table_interior left k ∷ cells) r stored = ap (λ l. child left ∷ (divider k ∷ l)) (steps_row cells r stored)
steps_row (index_leaf s ∷ cells) r stored = ap (λ l. cell None s ∷ l) (steps_row cells r stored)
steps_row (index_interior left s ∷ cells) r stored = ap (λ l. child left ∷ (cell None s ∷ l)) (steps_row cells r stored)

-- the row's chain was put, and its cell added
pub row_added : (old new : Pages) (leaf after : Level) (levels : List Level) (last : Option ℤ) (r : ℤ) (pushed : List Entry) (payload raw : List ℕ) (n : ℕ) → 480 ≤ old.usable
    → IsPutChain old new n (drop (local_len Table old.usable (length payload)) payload) → local_len Table old.usable (length payload) ≤ length payload → is_at_most last r ≡ false
    → IsCellWritten TableLeaf old.usable raw (table_leaf r (stored_as Table old.usable payload n))
    → after.page ≡ with_cell leaf.page raw → after.page.kind ≡ leaf.page.kind → after.waiting.items ≡ leaf.waiting.items
    → Rows old leaf levels last pushed → Rows new after levels (Some r) (pushed ++ record { rowid = Some r; payload = payload } ∷ [])
row_added old new leaf after levels last r pushed payload raw n large is most above written built kept waits rows =
    let stored : StoredCell = stored_as Table old.usable payload n in
    let one : Cell = table_leaf r stored in
    let begun : List Open = opened 1 rows.todos ++ at_height 0 (steps rows.cells None) in
    let step : List Open = record { height = 0; leads = cell (Some r) stored } ∷ [] in
    let c = chain_put old new Table payload n large is most in
    let now : StandsBut c.0 new Table last begun pushed = subst (λ ns. StandsBut ns new Table last begun pushed) c.3 (is.keeps Table last begun pushed rows.stands) in
    record {
      cells = rows.cells ++ one ∷ [];
      todos = rows.todos;
      is_kind = kept ∙ rows.is_kind;
      none = waits ∙ rows.none;
      has =
          subst (λ u. HasCells after.page u (rows.cells ++ one ∷ [])) (sym is.size)
          (subst (λ d. HasCells d old.usable (rows.cells ++ one ∷ [])) (sym built)
          (cells_more leaf.page old.usable rows.cells raw one rows.has (subst (λ k. IsCellWritten k old.usable raw one) (sym rows.is_kind) written)));
      above = subst (λ u. HoldLevels levels u TableInterior rows.todos) (sym is.size) rows.above;
      stands =
          subst (λ t. OpenPagesStand new Table (Some r) t (pushed ++ record { rowid = Some r; payload = payload } ∷ []))
          (append_assoc (opened 1 rows.todos) (at_height 0 (steps rows.cells None)) step
          ∙ ap (λ t. opened 1 rows.todos ++ t) (sym (ap (at_height 0) (steps_row rows.cells r stored) ∙ at_height-append 0 (steps rows.cells None) (cell (Some r) stored ∷ []))))
          (cell_stands new Table last begun pushed 0 (Some r) stored c.0 payload now above c.1
          (λ slack. chain_apart old.accepts (open_found new Table slack [] begun) c.0 c.2
          (ap (λ f. list_all old.accepts (places f)) (is.same Table last begun pushed rows.stands slack) ∙ rows.stands.put slack)));
    }

-- nothing was pushed
pub empty_loaded : (pages : Pages) (leaf : Level) (levels : List Level) (usable : ℕ) (kind : Kind) → leaf.page.kind ≡ kind → leaf.waiting.items ≡ [] → HasCells leaf.page usable [] → levels ≡ []
    → pages.usable ≡ usable → IsNonePut pages → LoadedAs pages leaf levels kind None []
empty_loaded pages leaf levels usable kind same none has no_level size free = record {
  todo = [];
  todos = [];
  is_kind = same;
  hold = record {
    cells = [];
    between = [];
    has = subst (λ u. HasCells leaf.page u []) (sym size) has;
    pairs = subst (λ i. ArePairs i leaf.page.kind pages.usable []) (sym none) tt;
    is = sym (ap (λ i. waiting_steps leaf.page.kind i []) none);
  };
  above = subst (λ l. HoldLevels l pages.usable (up_kind kind) []) (sym no_level) tt;
  stands = nothing_stands pages (family_of kind) free;
}

-- the kind is that of the leaf
pub own_kind : (pages : Pages) (leaf : Level) (levels : List Level) (kind : Kind) (last : Option ℤ) (pushed : List Entry)
    → LoadedAs pages leaf levels kind last pushed → LoadedAs pages leaf levels leaf.page.kind last pushed
own_kind pages leaf levels kind last pushed l = subst (λ k. LoadedAs pages leaf levels k last pushed) (sym l.is_kind) l
