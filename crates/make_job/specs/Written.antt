-- A new file that was written beside Main.
use Rattle.std.specs.Prelude.{ℕ, List, Option}
use Rattle.edge_model.specs.Files.{Files}
use Rattle.fresh_disk.specs.Beside.{IsNewBeside, IsNewWritten}
use Rattle.fresh_file.specs.Salted.{IsSalted}
use Rattle.make_job.specs.Made.{IsMadeUnder}
use Rattle.page_codec.specs.Page.{FileKeys}

-- the file is made, and begins with the salt of these keys
abbrev pub IsMadeWith : FileKeys → ℕ → List ℕ → Type 0
IsMadeWith keys rows file = IsSalted keys (IsMadeUnder keys rows) file

-- Fresh is such a file
abbrev pub IsMadeWritten : FileKeys → ℕ → Option (List ℕ) → Type 0
IsMadeWritten keys rows fresh = IsNewWritten (IsMadeWith keys rows) fresh

-- Fresh is such a file on a disk, and no byte of it is unsynced
abbrev pub IsMadeBeside : {D : Type 0} → (D → Files) → (D → Files → Type 0) → FileKeys → ℕ → D → Type 0
IsMadeBeside reads images keys rows disk = IsNewBeside reads images (IsMadeWith keys rows) disk
