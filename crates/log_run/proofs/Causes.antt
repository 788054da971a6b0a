-- A fault of the disk. A view that is not opened for one: no log is answered so by its bytes.
use Rattle.std.proofs.Common.{arith, ◌≡◌, ◌+◌, ◌≤◌, ◌==◌, ℕ, Bool, true, false, not, List, length, Option, Some, None, Result, Ok, Err, refl}
use Rattle.std.specs.Prelude.{if◌then◌else◌}
use Rattle.edge_model.specs.Causes.{Rose}
use Rattle.edge_model.specs.Files.{Files, bytes_of}
use Rattle.log_format.specs.Header.{log_page_size, log_version}
use Rattle.log_format.specs.Logs.{committed_frames}
use Rattle.log_recovery.specs.Opened.{is_over, log_answer_of}
use Rattle.log_recovery.specs.declared.settling.LogError.{LogError}
use Rattle.log_recovery.specs.declared.settling.LogError.TheVariants.{LogVersion, LogPageSize, DiskFault as LogFails, OutOfMemory as LogMemory}
use Rattle.log_recovery.specs.declared.settling.LogLaid.{LogLaid}
use Rattle.log_recovery.specs.declared.settling.LogLaid.TheVariants.{Nothing, Empty, Laid}
use Rattle.log_view.specs.Refused.{IsViewRefused}
use Rattle.log_view.specs.declared.opening.ViewError.{ViewError}
use Rattle.log_view.specs.declared.opening.ViewError.TheVariants.{Log, TooLarge, TooLong, Short, LogCut, DiskFault as ViewFails, OutOfMemory as ViewMemory}
use Rattle.sqlcipher_tool.specs.WithLog.{view_stop}
use Rattle.sqlcipher_tool.specs.declared.opening.Stop.TheVariants.{DiskFault as StopDisk}

no_fault : (size : ℕ) (main log : Option (List ℕ)) → log_answer_of size main log ≡ Err LogFails → ⊥
no_fault size None log is = cc is
no_fault size (Some main) None is = cc is
no_fault size (Some main) (Some log) is = steps (length main == 0) (is_over main log) (log_version log == 3007000) (log_page_size log == size) is
  where
    answer : (empty over known sized : Bool) → Result LogLaid LogError
    answer empty over known sized =
        if empty then Ok Nothing
        else if not over then Ok Empty
        else if not known then Err (LogVersion (log_version log))
        else if not sized then Err (LogPageSize (log_page_size log))
        else Ok (Laid (committed_frames size log))

    steps : (empty over known sized : Bool) → answer empty over known sized ≡ Err LogFails → ⊥
    steps true over known sized is = cc is
    steps false false known sized is = cc is
    steps false true false sized is = cc is
    steps false true true false is = cc is
    steps false true true true is = cc is

pub disk_alone : (size most : ℕ) (files : Files) (why : ViewError) → IsViewRefused size most files why → view_stop why ≡ StopDisk → why ≡ ViewFails
disk_alone size most files (Log (LogVersion found)) due stop = cc stop
disk_alone size most files (Log (LogPageSize found)) due stop = cc stop
disk_alone size most files (Log LogFails) due stop = absurd (no_fault size (bytes_of files.main) (bytes_of files.journal) due)
disk_alone size most files (Log LogMemory) due stop = cc stop
disk_alone size most files (TooLarge pages) due stop = cc stop
disk_alone size most files (TooLong frames) due stop = cc stop
disk_alone size most files (Short pages) due stop = cc stop
disk_alone size most files LogCut due stop = absurd due
disk_alone size most files ViewFails due stop = refl
disk_alone size most files ViewMemory due stop = cc stop

-- a count that rose behind the opening of a view rose over that of the disk that was given
pub rose_view : (given below refused now : ℕ) → given ≤ below → refused ≡ 0 → Rose (below + refused) now → Rose given now
rose_view given below refused now later none rose = omega (arith, later, none, rose)
