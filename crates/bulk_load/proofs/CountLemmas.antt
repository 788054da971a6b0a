-- What the open pages hold, and what is kept back of it.
use Rattle.std.proofs.Common.{◌≡◌, ◌≤◌, ◌+◌, ◌-◌, ◌⊎◌, inl, inr, max, ℕ, suc, List, [], ◌∷◌, ◌++◌, length, replicate, refl, ap, ◌∙◌, arith, length-append}
use Rattle.std.proofs.lemmas.List.{length-replicate}
use Rattle.btree_page.specs.declared.kind.Kind.{Kind}
use Rattle.btree_page.specs.declared.kind.Kind.TheVariants.{IndexInterior, IndexLeaf, TableInterior, TableLeaf}
use Rattle.page_build.specs.Draft.{Draft, room_of, with_cell}
use Rattle.page_build.specs.Written.{joined_cells, padded}
use Rattle.page_build.proofs.Append.{content-more}
use Rattle.bulk_load.specs.declared.level.Level.{Level}
use Rattle.bulk_load.specs.declared.pair.Pair.{Pair}
use Rattle.bulk_load.specs.Count.{CanEnd, IsBack, LeafIsBack, held, load}

max_is : (n : ℕ) → max 4 n ≡ n + (4 - n)
max_is n = grind arith

-- a cell takes no more room than it was given
pub room_after : (draft : Draft) (cell : List ℕ) (more : ℕ) → max 4 (length cell) + 2 + more ≤ room_of draft → more ≤ room_of (with_cell draft cell)
room_after draft cell more fits =
    let c : List ℕ = padded cell in
    let many : length (draft.cells ++ c ∷ []) ≡ length draft.cells + 1 = length-append draft.cells (c ∷ []) in
    let bytes : length (joined_cells (draft.cells ++ c ∷ [])) ≡ length c + length (joined_cells draft.cells) = ap length (content-more draft.cells c) ∙ length-append c (joined_cells draft.cells) in
    let long : length c ≡ length cell + (4 - length cell) =
    length-append cell (replicate (4 - length cell) 0) ∙ ap (λ n. length cell + n) (length-replicate (4 - length cell) 0) in
    let most : max 4 (length cell) ≡ length cell + (4 - length cell) = max_is (length cell) in
    omega arith

pub back_can : (page : Draft) (waiting : List Pair) → IsBack page waiting → CanEnd page waiting
back_can page [] back = absurd back
back_can page (p ∷ []) back = inl back
back_can page (p ∷ (q ∷ [])) back = tt
back_can page (p ∷ (q ∷ (r ∷ more))) back = absurd back

pub back_some : (level : Level) → IsBack level.page level.waiting.items → 1 ≤ load level
back_some level back = some level.page level.waiting.items back
  where
    some : (page : Draft) (waiting : List Pair) → IsBack page waiting → 1 ≤ length page.cells + length waiting
    some page [] back = absurd back
    some page (p ∷ waiting) back = omega arith

pub leaf_can : (kind : Kind) (page : Draft) (waiting : List Pair) → LeafIsBack kind page waiting → CanEnd page waiting
leaf_can TableLeaf page [] back = tt
leaf_can TableLeaf page (p ∷ waiting) back = absurd (no_length (length waiting) back)
  where
    no_length : (n : ℕ) → suc n ≡ 0 → ⊥
    no_length n h = omega arith
leaf_can IndexLeaf page [] back = tt
leaf_can IndexLeaf page (p ∷ waiting) (inl none) = absurd (no_length (length waiting) none.0)
  where
    no_length : (n : ℕ) → suc n ≡ 0 → ⊥
    no_length n h = omega arith
leaf_can IndexLeaf page (p ∷ waiting) (inr back) = back_can page (p ∷ waiting) back
leaf_can TableInterior page waiting back = absurd back
leaf_can IndexInterior page waiting back = absurd back

pub held_none : (levels : List Level) → length levels ≡ 0 → held levels ≡ 0
held_none [] none = refl
held_none (level ∷ levels) none = absurd (no_length (length levels) none)
  where
    no_length : (n : ℕ) → suc n ≡ 0 → ⊥
    no_length n h = omega arith

-- a page that was closed for want of room was not closed for the last that waits
pub closed_can : (page new : Draft) (first : Pair) (rest : List Pair) → CanEnd page (first ∷ rest) → length new.cells ≡ 0
    → (rest ≡ [] → (length page.cells ≡ 0) ⊎ (length first.cell.items + 2 ≤ room_of page) → ⊥) → CanEnd new rest × (1 ≤ length rest)
closed_can page new first [] can emptied never = absurd (never refl can)
closed_can page new first (p ∷ []) can emptied never = (inl emptied, omega arith)
closed_can page new first (p ∷ (q ∷ more)) can emptied never = absurd can

-- two wait at most
pub can_few : (page : Draft) (waiting : List Pair) → CanEnd page waiting → length waiting ≤ 2
can_few page [] can = omega arith
can_few page (p ∷ []) can = omega arith
can_few page (p ∷ (q ∷ [])) can = omega arith
can_few page (p ∷ (q ∷ (r ∷ more))) can = absurd can
