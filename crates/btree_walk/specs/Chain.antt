-- The chain of one payload.
use Rattle.std.specs.Prelude.{◌≡◌, ℕ, true, List, [], ◌∷◌, ◌++◌, Result, Ok, Err, ⊤}
use Rattle.btree_page.specs.Cell.{StoredCell}
use Rattle.db_format.specs.Pages.{Pages, Test, also}
use Rattle.btree_model.specs.Finding.{Finding, places, entries, keys, faults, is_sound}
use Rattle.btree_model.specs.Rest.{AreUnmarked}
use Rattle.btree_model.specs.Walk.{chain, chain_bytes, chain_of, payload_of}
use Rattle.btree_walk.specs.Causes.{IsRefused}
use Rattle.btree_walk.specs.declared.error.WalkError.{WalkError}
use Rattle.btree_walk.specs.declared.error.WalkError.TheVariants.{Defect, Source, OutOfMemory}

-- these pages alone were met, each of them new
pub record IsPassed (taken : Test) (seen later : Test) : Type 0 where
  pub found : List Finding
  pub sound : is_sound found ≡ true
  pub entryless : entries found ≡ []
  pub keyless : keys found ≡ []
  pub unmarked : AreUnmarked taken (places found)
  pub marks : later ≡ also (places found) seen

-- A chain that was read in part. It began with `needed` pages from `first` on, and `more` from n on are left. It is so
-- for every test of earlier parts that holds for none of its pages.
pub record IsLinked (pages : Pages) (taken : Test) (met : List Finding) (needed start first more holder n : ℕ) (local got : List ℕ) (seen later : Test) : Type 0 where
  pub passed : IsPassed taken seen later
  pub whole : (b : Test) → AreUnmarked b (places passed.found)
      → chain pages b met needed start first ≡ passed.found ++ chain pages b (met ++ passed.found) more holder n
  pub bytes : local ++ chain_bytes pages needed first ≡ got ++ chain_bytes pages more n

-- a chain that was read whole
pub record IsRead (pages : Pages) (taken : Test) (met : List Finding) (needed start first : ℕ) (local got : List ℕ) (seen later : Test) : Type 0 where
  pub passed : IsPassed taken seen later
  pub whole : (b : Test) → AreUnmarked b (places passed.found) → chain pages b met needed start first ≡ passed.found
  pub bytes : got ≡ local ++ chain_bytes pages needed first

-- it was not: its only defect, or a refusal of one of its pages
abbrev pub IsCut : {R : Type 0} → (Pages → ℕ → R → Type 0) → Pages → List Finding → WalkError R → Type 0
IsCut refuses pages all (Defect defect) = faults all ≡ defect ∷ []
IsCut refuses pages all (Source refusal) = IsRefused refuses pages all refusal
IsCut refuses pages all OutOfMemory = ⊤

abbrev pub IsChained : {R : Type 0} → (Pages → ℕ → R → Type 0) → Pages → Test → List Finding → ℕ → ℕ → ℕ → List ℕ → List ℕ → Test → Test → Result Unit (WalkError R) → Type 0
IsChained refuses pages taken met needed start first local got seen later (Ok done) = IsRead pages taken met needed start first local got seen later
IsChained refuses pages taken met needed start first local got seen later (Err error) = IsCut refuses pages (chain pages taken met needed start first) error

-- the chain of this payload, whose cell is on page n, was met whole
pub record IsPaid (pages : Pages) (taken : Test) (met : List Finding) (n : ℕ) (stored : StoredCell) (got : List ℕ) (seen later : Test) : Type 0 where
  pub passed : IsPassed taken seen later
  pub whole : (b : Test) → AreUnmarked b (places passed.found) → chain_of pages b met n stored ≡ passed.found
  pub payload : got ≡ payload_of pages stored

abbrev pub IsCellRead : {R : Type 0} → (Pages → ℕ → R → Type 0) → Pages → Test → List Finding → ℕ → StoredCell → List ℕ → Test → Test → Result Unit (WalkError R) → Type 0
IsCellRead refuses pages taken met n stored got seen later (Ok done) = IsPaid pages taken met n stored got seen later
IsCellRead refuses pages taken met n stored got seen later (Err error) = IsCut refuses pages (chain_of pages taken met n stored) error
