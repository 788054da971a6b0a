-- The freelist as it was found.
use Rattle.std.specs.Prelude.{◌≡◌, ℕ, Bool, true, List, length, Result, Ok, Err}
use Rattle.db_format.specs.Pages.{Pages, Test, nothing, also}
use Rattle.db_format.specs.Seen.{marked}
use Rattle.btree_model.specs.Finding.{Finding, leaves, places, is_sound}
use Rattle.btree_walk.specs.declared.error.WalkError.{WalkError}
use Rattle.space_map.specs.Walk.{IsFirst}

-- a mark for each leaf, by page number, and how many trunks and leaves there are
pub record FreePages : Type 0 where
  pub leaves : List Bool
  pub count : ℕ

-- the walk has no defect; these are its leaves and the count of its pages, and each of its pages is marked
pub record IsFreelistFound (all : List Finding) (taken seen : Test) (map : FreePages) : Type 0 where
  pub sound : is_sound all ≡ true
  pub leafs : marked map.leaves ≡ also (leaves all) nothing
  pub count : map.count ≡ length (places all)
  pub marks : seen ≡ also (places all) taken

-- what a walk of the freelist came to
abbrev pub IsFreelist : {R : Type 0} → (Pages → ℕ → R → Type 0) → Pages → List Finding → Test → Test → Result FreePages (WalkError R) → Type 0
IsFreelist refuses pages all taken seen (Ok map) = IsFreelistFound all taken seen map
IsFreelist refuses pages all taken seen (Err why) = IsFirst refuses pages all why
