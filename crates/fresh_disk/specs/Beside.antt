-- A new file that was written beside Main. What makes it the wanted one is a parameter.
use Rattle.std.specs.Prelude.{◌≡◌, ℕ, List, Option, Some}
use Rattle.edge_model.specs.Files.{File, Files}
use Rattle.fresh_disk.specs.OnlyFresh.{IsFreshSynced}

-- Fresh is such a file
pub record IsNewWritten (is_new : List ℕ → Type 0) (fresh : Option (List ℕ)) : Type 0 where
  pub file : List ℕ
  pub is : fresh ≡ Some file
  pub made : is_new file

-- Fresh is such a file on a disk, and no byte of it is unsynced
pub record IsNewBeside {D : Type 0} (reads : D → Files) (images : D → Files → Type 0) (is_new : List ℕ → Type 0) (disk : D) : Type 0 where
  pub file : File
  pub is : (reads disk).fresh ≡ Some file
  pub made : is_new file.bytes
  pub synced : IsFreshSynced (images disk) (reads disk)
