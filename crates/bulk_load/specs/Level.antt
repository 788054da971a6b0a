-- What one level holds.
use Rattle.std.specs.Prelude.{ℕ, suc, ◌≡◌, ℤ, List, [], ◌∷◌, ◌++◌, Option, Some, None}
use Rattle.btree_page.specs.declared.kind.Kind.{Kind}
use Rattle.btree_page.specs.Cell.{Cell}
use Rattle.db_format.specs.Pages.{Pages}
use Rattle.btree_page.specs.Step.{Step, steps}
use Rattle.btree_model.specs.Content.{Entry}
use Rattle.load_model.specs.Open.{Open, at_height}
use Rattle.load_model.specs.Stands.{OpenPagesStand}
use Rattle.btree_page.specs.Kind.{family_of}
use Rattle.bulk_load.specs.declared.pair.Pair.{Pair}
use Rattle.bulk_load.specs.declared.level.Level.{Level}
use Rattle.bulk_load.specs.Close.{HasCells}
use Rattle.bulk_load.specs.Settle.{IsNamed, IsPair, up_kind, on, two}

abbrev pub AreNamed : ℕ → List Pair → Type 0
AreNamed usable [] = Unit {0}
AreNamed usable (pair ∷ pairs) = IsNamed usable pair × AreNamed usable pairs

-- sizes
pub record IsLevelReady (level : Level) (usable : ℕ) : Type 0 where
  pub size : level.page.usable ≡ usable
  pub plain : level.page.header ≡ 0
  pub named : AreNamed usable level.waiting.items

-- these stand behind the children that wait
abbrev pub ArePairs : List Pair → Kind → ℕ → List Step → Type 0
ArePairs [] kind usable [] = Unit {0}
ArePairs [] kind usable (s ∷ ss) = ⊥
ArePairs (pair ∷ pairs) kind usable [] = ⊥
ArePairs (pair ∷ pairs) kind usable (s ∷ ss) = IsPair pair kind usable s × ArePairs pairs kind usable ss

abbrev pub waiting_steps : Kind → List Pair → List Step → List Step
waiting_steps kind (pair ∷ pairs) (s ∷ ss) = on kind pair.child s ++ waiting_steps kind pairs ss
waiting_steps kind [] ss = []
waiting_steps kind (pair ∷ pairs) [] = []

-- the steps of the page's cells, and then of what waits
pub record HoldsLevel (level : Level) (usable : ℕ) (todo : List Step) : Type 0 where
  pub cells : List Cell
  pub between : List Step
  pub has : HasCells level.page usable cells
  pub pairs : ArePairs level.waiting.items level.page.kind usable between
  pub is : todo ≡ steps cells None ++ waiting_steps level.page.kind level.waiting.items between

-- after a pair entered: the level holds it, or a page of it goes up
abbrev pub IsEntryIn : Pages → Level → ℕ → Kind → ℕ → List Open → List Open → Option ℤ → List Entry → Option Pair → Type 0
IsEntryIn pages level usable kind h front back last pushed None =
    (todo : List Step) × HoldsLevel level usable todo × OpenPagesStand pages (family_of kind) last (front ++ (at_height h todo ++ back)) pushed
IsEntryIn pages level usable kind h front back last pushed (Some up) =
    (todo : List Step) × (s : Step) × HoldsLevel level usable todo × IsPair up (up_kind kind) usable s
    × OpenPagesStand pages (family_of kind) last (front ++ (two (suc h) up.child s ++ (at_height h todo ++ back))) pushed
