-- What the levels of interior pages hold.
use Rattle.std.specs.Prelude.{ℕ, suc, ◌≡◌, ℤ, List, [], ◌∷◌, ◌++◌, Option, None}
use Rattle.btree_page.specs.declared.kind.Kind.{Kind}
use Rattle.btree_page.specs.Cell.{Cell}
use Rattle.db_format.specs.Pages.{Pages}
use Rattle.btree_page.specs.Step.{Step, steps}
use Rattle.btree_model.specs.Content.{Entry}
use Rattle.load_model.specs.Open.{Open, at_height}
use Rattle.load_model.specs.Stands.{OpenPagesStand}
use Rattle.btree_page.specs.Kind.{family_of}
use Rattle.bulk_load.specs.declared.level.Level.{Level}
use Rattle.bulk_load.specs.Close.{HasCells}
use Rattle.bulk_load.specs.Level.{IsLevelReady, HoldsLevel}

abbrev pub AreReady : List Level → ℕ → Type 0
AreReady [] usable = Unit {0}
AreReady (level ∷ levels) usable = IsLevelReady level usable × AreReady levels usable

-- the steps of these levels, from the lowest up; the children of the lowest have this height
abbrev pub opened : ℕ → List (List Step) → List Open
opened h [] = []
opened h (todo ∷ above) = opened (suc h) above ++ at_height h todo

abbrev pub HoldLevels : List Level → ℕ → Kind → List (List Step) → Type 0
HoldLevels [] usable kind [] = Unit {0}
HoldLevels [] usable kind (todo ∷ todos) = ⊥
HoldLevels (level ∷ levels) usable kind [] = ⊥
HoldLevels (level ∷ levels) usable kind (todo ∷ todos) = (level.page.kind ≡ kind) × HoldsLevel level usable todo × HoldLevels levels usable kind todos

-- after a child came: the levels hold it
pub record AreOpen (pages : Pages) (levels : List Level) (usable : ℕ) (kind : Kind) (h : ℕ) (back : List Open) (last : Option ℤ) (pushed : List Entry) : Type 0 where
  pub todos : List (List Step)
  pub hold : HoldLevels levels usable kind todos
  pub stands : OpenPagesStand pages (family_of kind) last (opened h todos ++ back) pushed

-- nothing waits at a level any more
pub record IsDrained (pages : Pages) (level : Level) (above : List Level) (usable : ℕ) (kind : Kind) (h : ℕ) (back : List Open) (last : Option ℤ) (pushed : List Entry) : Type 0 where
  pub cells : List Cell
  pub has : HasCells level.page usable cells
  pub rest : AreOpen pages above usable kind (suc h) (at_height h (steps cells None) ++ back) last pushed
