-- The steps of a page by their index.
use Rattle.std.proofs.Common.{◌≡◌, ◌∙◌, ℕ, zero, suc, ◌*◌, ◌/◌, ◌%◌, ◌≤◌, ◌==◌, Bool, true, false, List, [], ◌∷◌, length, slice_get, Option, Some, None, cond, arith, refl, sym, ap, subst}
use Rattle.std.proofs.lemmas.Bool.{eqb-true, eqb-false}
use Rattle.std.specs.Option.{option_map, option_and_then}
use Rattle.std.proofs.lemmas.Option.{slice_get_past, slice_get_within}
use Rattle.btree_page.specs.Cell.{Cell, table_leaf, table_interior, index_leaf, index_interior, cell_of, childed, keyed, sized, stored_of}
use Rattle.btree_page.specs.declared.kind.Kind.{Kind}
use Rattle.btree_page.specs.declared.kind.Kind.TheVariants.{IndexInterior, TableInterior, IndexLeaf, TableLeaf}
use Rattle.btree_page.specs.declared.kind.Family.TheVariants.{Table, Index}
use Rattle.btree_page.specs.Kind.{is_interior}
use Rattle.btree_page.specs.Step.{cell_index, cell_step, child, is_second, steps}

-- a cell of an interior page
abbrev pub has_child : Cell → Bool
has_child (table_leaf rowid stored) = false
has_child (table_interior left key) = true
has_child (index_leaf stored) = false
has_child (index_interior left stored) = true

abbrev pub AreOf : Bool → List Cell → Type 0
AreOf interior cells = (k : ℕ) (c : Cell) → slice_get cells k ≡ Some c → has_child c ≡ interior

leaf-cons : (c : Cell) (cells : List Cell) (right : Option ℕ) → has_child c ≡ false → steps (c ∷ cells) right ≡ cell_step c false ∷ steps cells right
leaf-cons (table_leaf rowid stored) cells right leaf = refl
leaf-cons (table_interior left key) cells right leaf = cc
leaf-cons (index_leaf stored) cells right leaf = refl
leaf-cons (index_interior left stored) cells right leaf = cc

interior-cons : (c : Cell) (cells : List Cell) (right : Option ℕ) → has_child c ≡ true
    → steps (c ∷ cells) right ≡ cell_step c false ∷ cell_step c true ∷ steps cells right
interior-cons (table_leaf rowid stored) cells right interior = cc
interior-cons (table_interior left key) cells right interior = refl
interior-cons (index_leaf stored) cells right interior = cc
interior-cons (index_interior left stored) cells right interior = refl

double : ℕ → ℕ
double zero = zero
double (suc h) = suc (suc (double h))

double-is : (h : ℕ) → double h ≡ 2 * h
unfolding double
double-is zero = refl
double-is (suc h) = let rest : double h ≡ 2 * h = double-is h in omega arith

module _ (right : Option ℕ) where
  leaf-step : (cells : List Cell) → AreOf false cells → (i : ℕ) (c : Cell) → slice_get cells i ≡ Some c
      → slice_get (steps cells right) i ≡ Some (cell_step c false)
  leaf-step [] leaves i c is = absurd (let within = slice_get_within [] i c is in omega arith)
  leaf-step (d ∷ cells) leaves zero c is = rw (leaf-cons d cells right (leaves 0 d refl)) (ap (option_map (λ c. cell_step c false)) is)
  leaf-step (d ∷ cells) leaves (suc i) c is =
      rw (leaf-cons d cells right (leaves 0 d refl)) (leaf-step cells (λ k. leaves (suc k)) i c is)

  first-step : (cells : List Cell) → AreOf true cells → (h : ℕ) (c : Cell) → slice_get cells h ≡ Some c
      → slice_get (steps cells right) (double h) ≡ Some (cell_step c false)
  unfolding double
  first-step [] interior h c is = absurd (let within = slice_get_within [] h c is in omega arith)
  first-step (d ∷ cells) interior zero c is = rw (interior-cons d cells right (interior 0 d refl)) (ap (option_map (λ c. cell_step c false)) is)
  first-step (d ∷ cells) interior (suc h) c is =
      rw (interior-cons d cells right (interior 0 d refl)) (first-step cells (λ k. interior (suc k)) h c is)

  second-step : (cells : List Cell) → AreOf true cells → (h : ℕ) (c : Cell) → slice_get cells h ≡ Some c
      → slice_get (steps cells right) (suc (double h)) ≡ Some (cell_step c true)
  unfolding double
  second-step [] interior h c is = absurd (let within = slice_get_within [] h c is in omega arith)
  second-step (d ∷ cells) interior zero c is = rw (interior-cons d cells right (interior 0 d refl)) (ap (option_map (λ c. cell_step c true)) is)
  second-step (d ∷ cells) interior (suc h) c is =
      rw (interior-cons d cells right (interior 0 d refl)) (second-step cells (λ k. interior (suc k)) h c is)

  parity : (cells : List Cell) → AreOf true cells → (index : ℕ) (c : Cell) → slice_get cells (index / 2) ≡ Some c → (b : Bool) → (index % 2 == 1) ≡ b
      → slice_get (steps cells right) index ≡ Some (cell_step c b)
  parity cells interior index c is true odd =
      let one : index % 2 ≡ 1 = eqb-true _ _ odd in
      let half : suc (double (index / 2)) ≡ index = omega (arith, double-is (index / 2)) in
      subst (λ i. slice_get (steps cells right) i ≡ Some (cell_step c true)) half (second-step cells interior (index / 2) c is)
  parity cells interior index c is false even =
      let none : index % 2 ≡ 0 = let other = eqb-false _ _ even in omega arith in
      let half : double (index / 2) ≡ index = omega (arith, double-is (index / 2)) in
      subst (λ i. slice_get (steps cells right) i ≡ Some (cell_step c false)) half (first-step cells interior (index / 2) c is)

  -- the step of a cell
  pub step-cell : (interior : Bool) (cells : List Cell) → AreOf interior cells → (index : ℕ) (c : Cell)
      → slice_get cells (cell_index interior index) ≡ Some c → slice_get (steps cells right) index ≡ Some (cell_step c (is_second interior index))
  step-cell true cells are index c is = parity cells are index c is _ refl
  step-cell false cells are index c is = leaf-step cells are index c is

length-leaf : (cells : List Cell) → AreOf false cells → length (steps cells None) ≡ length cells
length-leaf [] leaves = refl
length-leaf (d ∷ cells) leaves = rw (leaf-cons d cells None (leaves 0 d refl)) (ap suc (length-leaf cells (λ k. leaves (suc k))))

-- a leaf ends behind its cells
pub step-end : (cells : List Cell) → AreOf false cells → (index : ℕ) → length cells ≤ index → slice_get (steps cells None) index ≡ None
step-end cells leaves index past =
    slice_get_past (steps cells None) index (let size : length (steps cells None) ≡ length cells = length-leaf cells leaves in omega arith)

module _ (r : ℕ) where
  length-interior : (cells : List Cell) → AreOf true cells → length (steps cells (Some r)) ≡ suc (double (length cells))
  unfolding double
  length-interior [] interior = refl
  length-interior (d ∷ cells) interior =
      rw (interior-cons d cells (Some r) (interior 0 d refl)) (ap (λ k. suc (suc k)) (length-interior cells (λ k. interior (suc k))))

  right-step : (cells : List Cell) → AreOf true cells → slice_get (steps cells (Some r)) (double (length cells)) ≡ Some (child r)
  unfolding double
  right-step [] interior = refl
  right-step (d ∷ cells) interior =
      rw (interior-cons d cells (Some r) (interior 0 d refl)) (right-step cells (λ k. interior (suc k)))

  -- behind the cells of an interior page comes its right child, then nothing
  pub step-right : (cells : List Cell) → AreOf true cells → (index : ℕ) → 2 * length cells ≤ index → (b : Bool) → (index == 2 * length cells) ≡ b
      → slice_get (steps cells (Some r)) index ≡ cond b (Some (child r)) None
  step-right cells interior index past true last =
      let is : double (length cells) ≡ index = double-is (length cells) ∙ sym (eqb-true _ _ last) in
      subst (λ i. slice_get (steps cells (Some r)) i ≡ Some (child r)) is (right-step cells interior)
  step-right cells interior index past false behind =
      let other = eqb-false index (2 * length cells) behind in
      let size : length (steps cells (Some r)) ≡ suc (2 * length cells) = length-interior cells interior ∙ ap suc (double-is (length cells)) in
      slice_get_past (steps cells (Some r)) index (omega arith)

-- a cell of a page of this kind
mapped : {X : Type 0} (f : X → Cell) (o : Option X) (c : Cell) (b : Bool) → ((x : X) → has_child (f x) ≡ b) → option_map f o ≡ Some c → has_child c ≡ b
mapped f None c b all is = cc
mapped f (Some x) c b all is = let same : f x ≡ c = cc in ap has_child (sym same) ∙ all x

chained : {X : Type 0} (f : X → Option Cell) (o : Option X) (c : Cell) (b : Bool) → ((x : X) → f x ≡ Some c → has_child c ≡ b)
    → option_and_then f o ≡ Some c → has_child c ≡ b
chained f None c b all is = cc
chained f (Some x) c b all is = all x is

pub kind-cell : (kind : Kind) (usable : ℕ) (bytes : List ℕ) (c : Cell) → cell_of kind usable bytes ≡ Some c → has_child c ≡ is_interior kind
kind-cell TableLeaf usable bytes c is =
    chained _ (sized bytes) c false (λ size. chained _ (keyed size.1) c false
    (λ key. mapped _ (stored_of Table usable size.0 key.1) c false (λ stored. refl))) is
kind-cell TableInterior usable bytes c is =
    chained _ (childed bytes) c true (λ left. mapped _ (keyed left.1) c true (λ key. refl)) is
kind-cell IndexLeaf usable bytes c is =
    chained _ (sized bytes) c false (λ size. mapped _ (stored_of Index usable size.0 size.1) c false (λ stored. refl)) is
kind-cell IndexInterior usable bytes c is =
    chained _ (childed bytes) c true (λ left. chained _ (sized left.1) c true
    (λ size. mapped _ (stored_of Index usable size.0 size.1) c true (λ stored. refl))) is
