-- The whole of a database.
use Rattle.std.specs.Prelude.{◌≡◌, ℕ, true, List, map, Result, Ok, Err}
use Rattle.db_format.specs.Pages.{Pages, nothing, also}
use Rattle.db_format.specs.Seen.{marked}
use Rattle.btree_model.specs.Finding.{Finding, places, entries, leaves}
use Rattle.btree_model.specs.Freelist.{freelist_walk}
use Rattle.btree_model.specs.Parts.{counts, is_database, parts}
use Rattle.btree_model.specs.Schema.{schema_part}
use Rattle.btree_walk.specs.declared.error.WalkError.{WalkError}
use Rattle.space_map.specs.FreeMap.{IsFreelistFound}
use Rattle.space_map.specs.Walk.{IsFirst}
use Rattle.schema_map.specs.Parts.{IsEarliest}
use Rattle.schema_map.specs.Schema.{schema_row}
use Rattle.schema_map.specs.Started.{FreeMarks}
use Rattle.schema_map.specs.declared.counts.Census.{Census}

-- the first two parts of a database
abbrev pub free_part : Pages → List Finding
free_part pages = freelist_walk pages nothing

abbrev pub schema_after : Pages → List Finding
schema_after pages = schema_part pages (also (places (free_part pages)) nothing)

-- the freelist has no defect, and these are its leaves, its count and its marks
abbrev pub IsCensusBegun : Pages → FreeMarks → Type 0
IsCensusBegun pages started = IsFreelistFound (free_part pages) nothing (marked started.marks) started.free

-- what the first call came to
abbrev pub IsStarted : {R : Type 0} → (Pages → ℕ → R → Type 0) → Pages → Result FreeMarks (WalkError R) → Type 0
IsStarted refuses pages (Ok started) = IsCensusBegun pages started
IsStarted refuses pages (Err error) = IsFirst refuses pages (free_part pages) error

-- no part has a defect, and these are its counts, its schema and its freelist
pub record IsWhole (pages : Pages) (census : Census) : Type 0 where
  pub sound : is_database pages ≡ true
  pub trees : census.trees ≡ (counts pages).trees
  pub rows : census.entries ≡ (counts pages).rows
  pub free : census.free ≡ (counts pages).free
  pub unused : census.unused ≡ (counts pages).unused
  pub schema : census.schema ≡ map schema_row (entries (schema_after pages))
  pub leafs : marked census.leaves.leaves ≡ also (leaves (free_part pages)) nothing

-- what a census came to
abbrev pub IsCensus : {R : Type 0} → (Pages → ℕ → R → Type 0) → Pages → Result Census (WalkError R) → Type 0
IsCensus refuses pages (Ok census) = IsWhole pages census
IsCensus refuses pages (Err error) = IsEarliest refuses pages (parts pages) error
