-- A file that is read with its log: which commands ask for it, and what is answered where no view of the two is opened.
use Rattle.std.specs.Prelude.{Option, Some, None, is_some, if◌then◌else◌}
use Rattle.cipher_profile.specs.declared.profile.Profile.{Profile}
use Rattle.log_recovery.specs.declared.settling.LogError.TheVariants.{LogVersion, LogPageSize, DiskFault as LogFails, OutOfMemory as LogMemory}
use Rattle.log_view.specs.declared.opening.ViewError.{ViewError}
use Rattle.log_view.specs.declared.opening.ViewError.TheVariants.{Log, TooLarge, TooLong, Short, LogCut, DiskFault as ViewFails, OutOfMemory as ViewMemory}
use Rattle.sqlcipher_tool.specs.Due.{word_refusal}
use Rattle.sqlcipher_tool.specs.Words.{profile_with_log}
use Rattle.sqlcipher_tool.specs.declared.command.Command.{Command}
use Rattle.sqlcipher_tool.specs.declared.opening.Stop.{Stop}
use Rattle.sqlcipher_tool.specs.declared.opening.Stop.TheVariants.{Refused as StopRefused, DiskFault as StopDisk, OutOfMemory as StopMemory}
use Rattle.sqlcipher_tool.specs.declared.status.Refusal.TheVariants.{LogVersion as RefusedVersion, LogPageSize as RefusedSize, LogShort, LogTooLarge}

-- the profile by which a file is read with its log, where the words do not refuse it
abbrev pub viewed_by : Option Command → Option Profile
viewed_by None = None
viewed_by (Some command) = if is_some (word_refusal command) then None else profile_with_log command

-- how a command stops whose view is not opened: a log that another program cut meanwhile is a fault of the disk
abbrev pub view_stop : ViewError → Stop
view_stop (Log (LogVersion found)) = StopRefused (RefusedVersion found)
view_stop (Log (LogPageSize found)) = StopRefused (RefusedSize found)
view_stop (Log LogFails) = StopDisk
view_stop (Log LogMemory) = StopMemory
view_stop (TooLarge pages) = StopRefused LogTooLarge
view_stop (TooLong frames) = StopRefused LogTooLarge
view_stop (Short pages) = StopRefused (LogShort pages)
view_stop LogCut = StopDisk
view_stop ViewFails = StopDisk
view_stop ViewMemory = StopMemory
