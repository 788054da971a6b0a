-- A walk that has come part of the way: what it has met, and what is left.
use Rattle.std.specs.Prelude.{ℕ, ◌≡◌, true, false, List, [], ◌∷◌, ◌++◌}
use Rattle.std.specs.List.{list_any}
use Rattle.btree_page.specs.declared.kind.Family.{Family}
use Rattle.db_format.specs.Pages.{Pages, Test}
use Rattle.btree_model.specs.Finding.{Finding, places, is_sound}
use Rattle.btree_page.specs.Step.{Step}
use Rattle.btree_model.specs.Walk.{walk, steps_of}
use Rattle.btree_model.specs.Tree.{tree_walk}

-- a page of the path, from the deepest on: how many pages a path may have below it, and the steps that are left
pub record Frame : Type 0 where
  pub page : ℕ
  pub left : ℕ
  pub todo : List Step

-- what a walk with this path still meets
abbrev pub rest : Pages → Family → Test → List Finding → List Frame → List Finding
rest pages family taken met [] = []
rest pages family taken met (frame ∷ path) =
    let found = steps_of pages taken (walk pages family taken frame.left) met frame.page frame.todo in
    found ++ rest pages family taken (met ++ found) path

-- none of these pages has a place in an earlier part
abbrev pub AreUnmarked : Test → List ℕ → Type 0
AreUnmarked taken ns = list_any taken ns ≡ false

-- the walk of the tree from this root met all this, no defect among it, and has this path: so for every test of
-- earlier parts that holds for none of the pages that it met
pub record RestStands (pages : Pages) (family : Family) (root : ℕ) (met : List Finding) (path : List Frame) : Type 0 where
  pub sound : is_sound met ≡ true
  pub whole : (taken : Test) → AreUnmarked taken (places met) → tree_walk pages family taken root ≡ met ++ rest pages family taken met path
