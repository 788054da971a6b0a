-- A command that recovers Main first leaves the disk alone where there is no file to recover.
use Rattle.std.specs.Prelude.{◌≡◌, ◌⊎◌, length, Option, Some, None, IsErr}
use Rattle.cipher_profile.specs.declared.profile.Profile.{Profile}
use Rattle.edge_model.specs.Files.{Files, main_of}
use Rattle.edge_model.specs.Images.{Each}
use Rattle.sqlcipher_tool.specs.Holding.{DiskRun}
use Rattle.sqlcipher_tool.specs.Recovered.{recovery_of}

-- Main is absent or has no byte, or its recovery is refused
abbrev pub HasNoFile : Profile → Files → Type 0
HasNoFile profile files = (length (main_of files) ≡ 0) ⊎ IsErr (recovery_of profile files)

-- Nothing is written: the disk reads as before, and no crash leaves an image that was not one at the start. A sync may leave fewer.
pub record IsUnwritten (run : DiskRun) : Type 0 where
  pub reads : run.after ≡ run.before
  pub no_more : Each run.ever run.at_start

-- where there is no file to recover, nothing is written, not even where the disk fails
abbrev pub LeavesAlone : Option Profile → DiskRun → Type 0
LeavesAlone None run = Unit {0}
LeavesAlone (Some profile) run = HasNoFile profile run.before → IsUnwritten run
