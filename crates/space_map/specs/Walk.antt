-- A walk of the freelist that has come part of the way.
use Rattle.std.specs.Prelude.{◌≡◌, ℕ, ◌+◌, ◌≤◌, ◌⊎◌, true, false, List, ◌++◌, length, slice_get, Option, Some, None, Result, Ok, Err, ⊤}
use Rattle.db_format.specs.Bytes.{u32_at}
use Rattle.db_format.specs.Pages.{Pages, Test, nothing, also}
use Rattle.db_format.specs.declared.defect.Defect.{Defect as Fault}
use Rattle.db_format.specs.declared.defect.Defect.TheVariants.{PageTwice}
use Rattle.btree_model.specs.Finding.{Finding, places, leaves, faults, is_sound}
use Rattle.btree_model.specs.Freelist.{is_trunk, next_trunk, leaves_of, trunks}
use Rattle.btree_walk.specs.Causes.{IsMarked, IsRefused}
use Rattle.btree_walk.specs.declared.error.WalkError.{WalkError}
use Rattle.btree_walk.specs.declared.error.WalkError.TheVariants.{Defect, Source, OutOfMemory}
use Rattle.space_map.specs.declared.trunk.Trunk.{Trunk}

-- 0, or the number of a page that another may name
abbrev pub IsNumber : Pages → ℕ → Type 0
IsNumber pages n = (n ≡ 0) ⊎ ((2 ≤ n) × (n ≤ pages.count))

-- the bytes are a trunk page, with these numbers
pub record IsTrunk (pages : Pages) (bytes : List ℕ) (trunk : Trunk) : Type 0 where
  pub sound : is_trunk pages bytes ≡ true
  pub next : trunk.next ≡ next_trunk bytes
  pub size : trunk.size ≡ u32_at bytes 4
  pub number : IsNumber pages trunk.next

abbrev pub IsTrunkRead : Pages → List ℕ → Option Trunk → Type 0
IsTrunkRead pages bytes None = is_trunk pages bytes ≡ false
IsTrunkRead pages bytes (Some trunk) = IsTrunk pages bytes trunk

-- The walk has met all this, no defect among it, and goes on with trunk n, where at most `fuel` are walked.
-- `found` trunks and leaves have been met, and `free` are the leaves.
pub record IsFreeWalkAt (pages : Pages) (all : List Finding) (taken : Test) (fuel n found : ℕ) (seen free : Test) : Type 0 where
  pub met : List Finding
  pub whole : all ≡ met ++ trunks pages taken fuel n met
  pub sound : is_sound met ≡ true
  pub marks : seen ≡ also (places met) taken
  pub leafs : free ≡ also (leaves met) nothing
  pub count : found ≡ length (places met)

-- the same inside a trunk: these leaves are left, and then the trunks from `next` on
pub record IsInside (pages : Pages) (all : List Finding) (taken : Test) (fuel next : ℕ) (numbers : List ℕ) (found : ℕ) (seen free : Test) : Type 0 where
  pub met : List Finding
  pub whole : all ≡ met ++ (leaves_of taken met numbers ++ trunks pages taken fuel next (met ++ leaves_of taken met numbers))
  pub sound : is_sound met ≡ true
  pub marks : seen ≡ also (places met) taken
  pub leafs : free ≡ also (leaves met) nothing
  pub count : found ≡ length (places met)

abbrev pub first_fault : List Finding → Option Fault
first_fault all = slice_get (faults all) 0

-- the defect is the first of this walk, or the source refused a page of it
abbrev pub IsFirst : {R : Type 0} → (Pages → ℕ → R → Type 0) → Pages → List Finding → WalkError R → Type 0
IsFirst refuses pages all (Defect defect) = first_fault all ≡ Some defect
IsFirst refuses pages all (Source refusal) = IsRefused refuses pages all refusal
IsFirst refuses pages all OutOfMemory = ⊤

-- why the walk stopped; only places of it were marked
pub record IsStopped {R : Type 0} (refuses : Pages → ℕ → R → Type 0) (pages : Pages) (all : List Finding) (taken seen : Test) (why : WalkError R) : Type 0 where
  pub first : IsFirst refuses pages all why
  pub marks : IsMarked all taken seen

-- the leaf n has a mark
pub record IsLeafTwice (all : List Finding) (taken seen : Test) (n : ℕ) : Type 0 where
  pub first : first_fault all ≡ Some (PageTwice n)
  pub marks : IsMarked all taken seen

abbrev pub IsLeafTaken : Pages → List Finding → Test → ℕ → ℕ → ℕ → Test → Test → Result Unit ℕ → Type 0
IsLeafTaken pages all taken fuel next found seen free (Ok done) = IsFreeWalkAt pages all taken fuel next found seen free
IsLeafTaken pages all taken fuel next found seen free (Err n) = IsLeafTwice all taken seen n

-- after a trunk
abbrev pub IsVisited : {R : Type 0} → (Pages → ℕ → R → Type 0) → Pages → List Finding → Test → ℕ → ℕ → Test → Test → Result Trunk (WalkError R) → Type 0
IsVisited refuses pages all taken fuel found seen free (Ok trunk) = IsFreeWalkAt pages all taken fuel trunk.next (found + (1 + trunk.size)) seen free
IsVisited refuses pages all taken fuel found seen free (Err why) = IsStopped refuses pages all taken seen why

-- the walk is at its end, and met no defect
pub record IsDone (all : List Finding) (taken : Test) (found : ℕ) (seen free : Test) : Type 0 where
  pub sound : is_sound all ≡ true
  pub marks : seen ≡ also (places all) taken
  pub leafs : free ≡ also (leaves all) nothing
  pub count : found ≡ length (places all)

abbrev pub IsWalked : {R : Type 0} → (Pages → ℕ → R → Type 0) → Pages → List Finding → Test → Test → Test → Result ℕ (WalkError R) → Type 0
IsWalked refuses pages all taken seen free (Ok found) = IsDone all taken found seen free
IsWalked refuses pages all taken seen free (Err why) = IsStopped refuses pages all taken seen why
