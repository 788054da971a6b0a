-- What a command that recovers Main first leaves, where behind the recovery it only read.
use Rattle.std.specs.Prelude.{◌≡◌, ◌≢◌, ◌⊎◌, ◌<◌, Bool, false, length, Option, Some, None}
use Rattle.cipher_profile.specs.declared.profile.Profile.{Profile}
use Rattle.edge_model.specs.Files.{bytes_of, main_of}
use Rattle.edge_model.specs.Images.{Each}
use Rattle.rollback_journal.specs.Recovery.{IsPlaybackDone}
use Rattle.sqlcipher_tool.specs.Answer.{is_early_refusal}
use Rattle.sqlcipher_tool.specs.Holding.{DiskRun}
use Rattle.sqlcipher_tool.specs.Promises.{IsUnrecovered}
use Rattle.sqlcipher_tool.specs.Untouched.{IsUnwritten}
use Rattle.sqlcipher_tool.specs.declared.opening.ChangeError.{ChangeError}
use Rattle.sqlcipher_tool.specs.declared.opening.ChangeError.TheVariants.{Stopped, EntropyFault as EntropyFails}
use Rattle.sqlcipher_tool.specs.declared.opening.Stop.{Stop}
use Rattle.sqlcipher_tool.specs.declared.opening.Stop.TheVariants.{Refused as StopRefused, KeyRefused as StopKey, DiskFault as StopDisk, OutOfMemory as StopMemory}
use Rattle.sqlcipher_tool.specs.declared.status.Status.{Status}
use Rattle.sqlcipher_tool.specs.declared.status.Status.TheVariants.{Done, Usage, Refused, KeyRefused, DiskFault, OutputFault, InputFault, EntropyFault, OutOfMemory}

-- The recovery was done, and behind it the disk was only read. A refusal of the key or of the recovered file says so, and Done of a
-- command that changes nothing, as it seals no page.
abbrev pub HasOnlyRead : Bool → Status → Type 0
HasOnlyRead alters Done = alters ≡ false
HasOnlyRead alters Usage = ⊥
HasOnlyRead alters (Refused refusal) = (is_early_refusal refusal ≡ false) × (IsUnrecovered (Refused refusal) → ⊥)
HasOnlyRead alters KeyRefused = Unit {0}
HasOnlyRead alters DiskFault = ⊥
HasOnlyRead alters OutputFault = ⊥
HasOnlyRead alters InputFault = ⊥
HasOnlyRead alters EntropyFault = ⊥
HasOnlyRead alters OutOfMemory = ⊥

-- where Main had a byte, every image has the recovered file as Main and no journal
abbrev pub IsRecovered : Profile → DiskRun → Type 0
IsRecovered profile run =
    0 < length (main_of run.before) → Each run.at_exit (IsPlaybackDone profile.page_size (bytes_of run.before.main) (bytes_of run.before.journal))

-- the recovery was done, and behind it the disk was only read; or nothing was written
abbrev pub IsReadOrUnwritten : Profile → DiskRun → Type 0
IsReadOrUnwritten profile run = IsRecovered profile run ⊎ IsUnwritten run

-- So it is left by a command that recovers by this profile. One that changes nothing leaves the one or the other after every status but a disk
-- fault: no journal is of its own making.
abbrev pub LeavesRecovered : Status → Bool → Option Profile → DiskRun → Type 0
LeavesRecovered status alters None run = Unit {0}
LeavesRecovered status alters (Some profile) run =
    (HasOnlyRead alters status → IsRecovered profile run) × (alters ≡ false → status ≢ DiskFault → IsReadOrUnwritten profile run)

-- how a recovery stops a command
abbrev pub IsOfRecovery : Stop → Type 0
IsOfRecovery (StopRefused refusal) = IsUnrecovered (Refused refusal)
IsOfRecovery StopKey = ⊥
IsOfRecovery StopDisk = Unit {0}
IsOfRecovery StopMemory = Unit {0}

-- the file or the key was refused
abbrev pub IsRefusal : Stop → Type 0
IsRefusal (StopRefused refusal) = Unit {0}
IsRefusal StopKey = Unit {0}
IsRefusal StopDisk = ⊥
IsRefusal StopMemory = ⊥

-- and so of a file that is not changed
abbrev pub IsRefusedChange : ChangeError → Type 0
IsRefusedChange (Stopped stop) = IsRefusal stop
IsRefusedChange EntropyFails = ⊥
