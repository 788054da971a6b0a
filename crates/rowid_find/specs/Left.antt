-- The steps of a page that are still to be given.
use Rattle.std.specs.Prelude.{◌≡◌, ℤ, ℕ, ◌&&◌, ◌||◌, not, int_le, Bool, true, false, List, [], ◌∷◌, Option, Some, None}
use Rattle.btree_page.specs.declared.step.Step.{Step as CodeStep}
use Rattle.btree_page.specs.Cell.{Cell}
use Rattle.btree_page.specs.Shown.{step_shown}
use Rattle.btree_page.specs.Step.{Step}
use Rattle.rowid_find.specs.Wanted.{children_to, is_between, wanted}

-- those of these cells, before or after a first child
abbrev pub steps_from : Bool → ℤ → ℤ → List Cell → Option ℕ → List Step
steps_from true low high cells right = children_to high cells right
steps_from false low high cells right = wanted low high cells right

-- a row is given: no child was, and it lies in the range
abbrev pub is_row_wanted : Bool → ℤ → ℤ → ℤ → Bool
is_row_wanted begun low high rowid = not begun && is_between low high rowid

-- a child is given: one was before, or its key is the first that is at least `low`
abbrev pub is_child_wanted : Bool → ℤ → ℤ → Bool
is_child_wanted begun low key = begun || int_le low key

-- the first step is given, or none is left
abbrev pub GivesStep : List Step → Option CodeStep → List Step → Type 0
GivesStep old None new = (old ≡ []) × (new ≡ [])
GivesStep old (Some step) new = (shown : Step) × (step_shown step ≡ Some shown) × (old ≡ shown ∷ new)
