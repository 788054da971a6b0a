-- Why a walk stops.
use Rattle.std.specs.Prelude.{◌≡◌, ℕ, Bool, true, false, List, ◌++◌, ⊤}
use Rattle.std.specs.List.{Contains}
use Rattle.db_format.specs.Pages.{Pages, Test, also, is_page}
use Rattle.btree_model.specs.Finding.{Finding, faults, places, refusals}
use Rattle.btree_walk.specs.declared.error.WalkError.{WalkError}
use Rattle.btree_walk.specs.declared.error.WalkError.TheVariants.{Defect, Source, OutOfMemory}

-- the source refused a page at a sound place of this walk; where the page is not accepted, the walk has it among its refusals
pub record IsRefused {R : Type 0} (refuses : Pages → ℕ → R → Type 0) (pages : Pages) (all : List Finding) (refusal : R) : Type 0 where
  pub page : ℕ
  pub range : is_page pages page ≡ true
  pub placed : Contains (places all) page
  pub refused : refuses pages page refusal
  pub listed : pages.accepts page ≡ false → Contains (refusals all) page

-- the defect is one of this walk, or the source refused a page of it
abbrev pub IsAmong : {R : Type 0} → (Pages → ℕ → R → Type 0) → Pages → List Finding → WalkError R → Type 0
IsAmong refuses pages all (Defect defect) = Contains (faults all) defect
IsAmong refuses pages all (Source refusal) = IsRefused refuses pages all refusal
IsAmong refuses pages all OutOfMemory = ⊤

-- the source gave this refusal for one of its pages, in a state that was only read since this one
pub record IsGiven {T R : Type 0} (read : T → T → Type 0) (plain : T → Pages) (refuses : Pages → ℕ → R → Type 0) (before : T) (refusal : R) : Type 0 where
  pub state : T
  pub since : read before state
  pub page : ℕ
  pub range : is_page (plain before) page ≡ true
  pub refused : refuses (plain state) page refusal

-- a refusal is one that the source gave
abbrev pub IsGivenBy : {T R : Type 0} → (T → T → Type 0) → (T → Pages) → (Pages → ℕ → R → Type 0) → T → WalkError R → Type 0
IsGivenBy read plain refuses before (Defect defect) = ⊤
IsGivenBy read plain refuses before (Source refusal) = IsGiven read plain refuses before refusal
IsGivenBy read plain refuses before OutOfMemory = ⊤

-- a walk may stop so whose source refuses its pages in these ways alone
abbrev pub IsWalkStop : {R : Type 0} → (R → Type 0) → WalkError R → Type 0
IsWalkStop refuses (Defect defect) = ⊤
IsWalkStop refuses (Source refusal) = refuses refusal
IsWalkStop refuses OutOfMemory = ⊤

-- the error is a refusal that says that the device failed
abbrev pub is_failure : {R : Type 0} → (R → Bool) → WalkError R → Bool
is_failure is_fault (Defect defect) = false
is_failure is_fault (Source refusal) = is_fault refusal
is_failure is_fault OutOfMemory = false

-- the marks are those of before, and the places of the first findings of this walk
pub record IsMarked (all : List Finding) (old new : Test) : Type 0 where
  pub found : List Finding
  pub more : List Finding
  pub whole : all ≡ found ++ more
  pub marks : new ≡ also (places found) old
