-- The steps that are left, cell by cell.
use Rattle.std.proofs.Common.{◌≡◌, ◌≤◌, ◌+◌, ℕ, suc, ℤ, Bool, true, false, List, [], ◌∷◌, length, drop, slice_get, Option, Some, if◌then◌else◌, arith, refl, ap, sym, ◌∙◌}
use Rattle.std.specs.Prelude.{int_le}
use mir.Val.{SFits, of_z, to_z}
use mir.Syntax.{w64}
use Rattle.std.proofs.lemmas.Int.{to_z-of_z}
use Rattle.std.proofs.Common.{drop-cons, drop_of_length-le}
use Rattle.std.proofs.lemmas.Option.{get_or_from_slice_get, slice_get_within}
use Rattle.btree_page.specs.Cell.{Cell, StoredCell, table_leaf, table_interior, index_leaf, index_interior}
use Rattle.btree_page.specs.Step.{Step, child, entry}
use Rattle.rowid_find.specs.Left.{is_child_wanted, is_row_wanted, steps_from}
use Rattle.rowid_find.specs.Wanted.{children_to, wanted}

drop_at : {X : Type 0} (xs : List X) (i : ℕ) (x : X) → slice_get xs i ≡ Some x → drop i xs ≡ x ∷ drop (i + 1) xs
drop_at xs i x is =
    let next : suc i ≡ i + 1 = omega arith in
    drop-cons xs i x (slice_get_within xs i x is) ∙ ap (λ y. y ∷ drop (suc i) xs) (get_or_from_slice_get xs i x x is) ∙ ap (λ k. x ∷ drop k xs) next

module _ (low high : ℤ) (cells : List Cell) (right : Option ℕ) (i : ℕ) where
  abbrev left_from : Bool → ℕ → List Step
  left_from begun k = steps_from begun low high (drop k cells) right

  leaf_by : (begun : Bool) (r : ℤ) (stored : StoredCell) (rest : List Cell) (b : Bool) → is_row_wanted begun low high r ≡ b
      → steps_from begun low high (table_leaf r stored ∷ rest) right
      ≡ (if b then entry (Some r) stored ∷ steps_from begun low high rest right else steps_from begun low high rest right)
  leaf_by true r stored rest b is = ap (λ c. if c then entry (Some r) stored ∷ children_to high rest right else children_to high rest right) is
  leaf_by false r stored rest b is = ap (λ c. if c then entry (Some r) stored ∷ wanted low high rest right else wanted low high rest right) is

  key_by : (begun : Bool) (left : ℕ) (key : ℤ) (rest : List Cell) (b : Bool) → is_child_wanted begun low key ≡ b
      → steps_from begun low high (table_interior left key ∷ rest) right
      ≡ (if b then child left ∷ (if int_le high key then [] else steps_from true low high rest right) else steps_from begun low high rest right)
  key_by true left key rest b is = ap (λ c. if c then child left ∷ (if int_le high key then [] else children_to high rest right) else children_to high rest right) is
  key_by false left key rest b is = ap (λ c. if c then child left ∷ (if int_le high key then [] else children_to high rest right) else wanted low high rest right) is

  pub row_given : (begun : Bool) (r : ℤ) (stored : StoredCell) → slice_get cells i ≡ Some (table_leaf r stored) → is_row_wanted begun low high r ≡ true
      → left_from begun i ≡ entry (Some r) stored ∷ left_from begun (i + 1)
  row_given begun r stored is so = ap (λ l. steps_from begun low high l right) (drop_at cells i (table_leaf r stored) is) ∙ leaf_by begun r stored (drop (i + 1) cells) true so

  pub row_passed : (begun : Bool) (r : ℤ) (stored : StoredCell) → slice_get cells i ≡ Some (table_leaf r stored) → is_row_wanted begun low high r ≡ false
      → left_from begun i ≡ left_from begun (i + 1)
  row_passed begun r stored is so = ap (λ l. steps_from begun low high l right) (drop_at cells i (table_leaf r stored) is) ∙ leaf_by begun r stored (drop (i + 1) cells) false so

  pub child_given : (begun : Bool) (left : ℕ) (key : ℤ) → slice_get cells i ≡ Some (table_interior left key) → is_child_wanted begun low key ≡ true
      → left_from begun i ≡ child left ∷ (if int_le high key then [] else left_from true (i + 1))
  child_given begun left key is so = ap (λ l. steps_from begun low high l right) (drop_at cells i (table_interior left key) is) ∙ key_by begun left key (drop (i + 1) cells) true so

  pub child_passed : (begun : Bool) (left : ℕ) (key : ℤ) → slice_get cells i ≡ Some (table_interior left key) → is_child_wanted begun low key ≡ false
      → left_from begun i ≡ left_from begun (i + 1)
  child_passed begun left key is so = ap (λ l. steps_from begun low high l right) (drop_at cells i (table_interior left key) is) ∙ key_by begun left key (drop (i + 1) cells) false so

  index_leaf_by : (begun : Bool) (stored : StoredCell) (rest : List Cell) → steps_from begun low high (index_leaf stored ∷ rest) right ≡ steps_from begun low high rest right
  index_leaf_by true stored rest = refl
  index_leaf_by false stored rest = refl

  index_interior_by : (begun : Bool) (left : ℕ) (stored : StoredCell) (rest : List Cell) → steps_from begun low high (index_interior left stored ∷ rest) right ≡ steps_from begun low high rest right
  index_interior_by true left stored rest = refl
  index_interior_by false left stored rest = refl

  pub entry_passed : (begun : Bool) (stored : StoredCell) → slice_get cells i ≡ Some (index_leaf stored) → left_from begun i ≡ left_from begun (i + 1)
  entry_passed begun stored is = ap (λ l. steps_from begun low high l right) (drop_at cells i (index_leaf stored) is) ∙ index_leaf_by begun stored (drop (i + 1) cells)

  pub inner_passed : (begun : Bool) (left : ℕ) (stored : StoredCell) → slice_get cells i ≡ Some (index_interior left stored) → left_from begun i ≡ left_from begun (i + 1)
  inner_passed begun left stored is = ap (λ l. steps_from begun low high l right) (drop_at cells i (index_interior left stored) is) ∙ index_interior_by begun left stored (drop (i + 1) cells)

  -- behind the last cell
  end_by : (begun : Bool) → steps_from begun low high [] right ≡ children_to high [] right
  end_by true = refl
  end_by false = refl

  pub at_end : (begun : Bool) → length cells ≤ i → left_from begun i ≡ children_to high [] right
  at_end begun past = ap (λ l. steps_from begun low high l right) (drop_of_length-le cells past) ∙ end_by begun

pub not_over : (over : Bool) (xs now : List Step) → over ≡ false → (if over then [] else xs) ≡ now → xs ≡ now
not_over true xs now shut is = cc
not_over false xs now shut is = is

pub still_open : (over : Bool) (xs : List Step) → over ≡ false → xs ≡ (if over then [] else xs)
still_open true xs shut = cc
still_open false xs shut = refl

pub over_by : (a b : Bool) (xs : List Step) → a ≡ b → (if b then [] else xs) ≡ (if a then [] else xs)
over_by a b xs is = ap (λ c. if c then [] else xs) (sym is)

-- numbers that are passed to a call are the same there
pub passed2 : {X : Type 0} (f : ℤ → ℤ → X) (a b : ℤ) → SFits w64 a → SFits w64 b → f (to_z w64 (of_z w64 a)) (to_z w64 (of_z w64 b)) ≡ f a b
passed2 f a b p q = ap (λ (z : ℤ). f z (to_z w64 (of_z w64 b))) (to_z-of_z w64 a p) ∙ ap (λ (z : ℤ). f a z) (to_z-of_z w64 b q)

pub passed3 : {X : Type 0} (f : ℤ → ℤ → ℤ → X) (a b d : ℤ) → SFits w64 a → SFits w64 b → SFits w64 d
    → f (to_z w64 (of_z w64 a)) (to_z w64 (of_z w64 b)) (to_z w64 (of_z w64 d)) ≡ f a b d
passed3 f a b d p q r =
    ap (λ (z : ℤ). f z (to_z w64 (of_z w64 b)) (to_z w64 (of_z w64 d))) (to_z-of_z w64 a p) ∙ passed2 (f a) b d q r
