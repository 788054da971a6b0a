-- A new file where none was, at every moment of a run.
use Rattle.std.specs.Prelude.{◌≡◌, ℕ, List, Some, None}
use Rattle.edge_model.specs.Files.{File, Files}
use Rattle.edge_model.specs.Images.{Each, LeavesOnly}
use Rattle.fresh_disk.specs.OnlyFresh.{IsOld, OnlyFresh}
use Rattle.fresh_disk.specs.Published.{IsOldOrPublished, IsPublished}

-- Main and Journal were not touched: they read as before, and each image at each moment has them as one at the start
pub record LeavesOld {D : Type 0} (reads : D → Files) (images : D → Files → Type 0) (moment : D → ℕ) (since : D → ℕ → Files → Type 0) (old new : D) : Type 0 where
  pub stays : OnlyFresh (reads old) (reads new)
  pub any_moment : LeavesOnly moment since old new (IsOld (images old))

-- One new file for the whole run: each image at each moment has Main and Journal as one at the start, or this file as Main and
-- Journal as one at the start.
pub record MayTakePlace {D : Type 0} (images : D → Files → Type 0) (moment : D → ℕ) (since : D → ℕ → Files → Type 0) (is_new : List ℕ → Type 0) (old new : D) : Type 0 where
  pub file : File
  pub is : is_new file.bytes
  pub any_moment : LeavesOnly moment since old new (IsOldOrPublished (images old) (Some file))

-- it is Main now: no other file reads, and each image has it
pub record TakesPlace {D : Type 0} (reads : D → Files) (images : D → Files → Type 0) (moment : D → ℕ) (since : D → ℕ → Files → Type 0) (is_new : List ℕ → Type 0) (old new : D) : Type 0 where
  pub may : MayTakePlace images moment since is_new old new
  pub reads_so : reads new ≡ record { main = Some may.file; journal = None; fresh = None }
  pub at_exit : Each (images new) (IsPublished (images old) (Some may.file))
