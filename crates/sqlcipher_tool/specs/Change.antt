-- How a command that changes the file ends, before its last line is printed.
use Rattle.std.specs.Prelude.{◌≡◌, ◌⊎◌, List, ℕ, Option, Some, None, Result, Ok, Err}
use Rattle.edge_model.specs.Files.{Files, bytes_of}
use Rattle.edge_model.specs.Images.{Each, LeavesOnly}
use Rattle.pager.specs.declared.fill.PageError.{PageError}
use Rattle.pager.specs.declared.fill.PageError.TheVariants.{OutOfRange, TagRefused, DiskFault as PageFault, EntropyFault as DrawFault, AllPinned}
use Rattle.rekey_job.specs.declared.error.RekeyError.{RekeyError}
use Rattle.rekey_job.specs.declared.error.RekeyError.TheVariants.{LayoutDiffers, PageTag as RekeyTag, Defect as RekeyDefect, DiskFault as RekeyDisk, EntropyFault as RekeyEntropy, OutOfMemory as RekeyMemory}
use Rattle.sqlcipher_tool.specs.Answer.{Answer, done}
use Rattle.sqlcipher_tool.specs.Crash.{AtExit}
use Rattle.sqlcipher_tool.specs.Stop.{IsLateStop, stop_answer}
use Rattle.sqlcipher_tool.specs.declared.opening.ChangeError.{ChangeError}
use Rattle.sqlcipher_tool.specs.declared.opening.ChangeError.TheVariants.{Stopped, EntropyFault as EntropyFails}
use Rattle.sqlcipher_tool.specs.declared.opening.Stop.{Stop}
use Rattle.sqlcipher_tool.specs.declared.opening.Stop.TheVariants.{Refused as StopRefused, KeyRefused as StopKey, DiskFault as StopDisk, OutOfMemory as StopMemory}
use Rattle.sqlcipher_tool.specs.declared.status.Refusal.TheVariants.{PageTag, Defect as RefusedDefect}
use Rattle.sqlcipher_tool.specs.declared.status.Status.{Status}
use Rattle.sqlcipher_tool.specs.declared.status.Status.TheVariants.{Done, Refused, KeyRefused, DiskFault, EntropyFault, OutOfMemory}

-- how the run ends that stops so, where its line is printed
abbrev pub stop_status : Stop → Status
stop_status (StopRefused refusal) = Refused refusal
stop_status StopKey = KeyRefused
stop_status StopDisk = DiskFault
stop_status StopMemory = OutOfMemory

abbrev pub change_status : Result (List ℕ) ChangeError → Status
change_status (Ok report) = Done
change_status (Err (Stopped stop)) = stop_status stop
change_status (Err EntropyFails) = EntropyFault

-- the answer of a change with this report, or of the stop in its place; none where something outside failed
abbrev pub change_answer : Result (List ℕ) ChangeError → Option Answer
change_answer (Ok report) = Some (done report)
change_answer (Err (Stopped stop)) = stop_answer stop
change_answer (Err EntropyFails) = None

-- How page 1 stops the command where it is refused so. It is there, and a frame is free for it.
abbrev pub IsStopOf : PageError → ChangeError → Type 0
IsStopOf OutOfRange error = ⊥
IsStopOf (TagRefused page) error = error ≡ Stopped (StopRefused (PageTag page))
IsStopOf PageFault error = error ≡ Stopped StopDisk
IsStopOf DrawFault error = error ≡ EntropyFails
IsStopOf AllPinned error = ⊥

-- how a rekey that does not come to its end stops the command; that the layouts differ is known before
abbrev pub rekey_error : RekeyError → ChangeError
rekey_error LayoutDiffers = Stopped StopMemory
rekey_error (RekeyTag page) = Stopped (StopRefused (PageTag page))
rekey_error (RekeyDefect defect) = Stopped (StopRefused (RefusedDefect defect))
rekey_error RekeyDisk = Stopped StopDisk
rekey_error RekeyEntropy = EntropyFails
rekey_error RekeyMemory = Stopped StopMemory

-- it is none that the words or the key line alone decide
abbrev pub IsLateChange : ChangeError → Type 0
IsLateChange (Stopped stop) = IsLateStop stop
IsLateChange EntropyFails = Unit {0}

-- One new file, from the first disk to the last: each image had the old one or it, and at the exit as the status says. `new` says
-- what an image holds that has it.
pub record Commits {D : Type 0} (reads : D → Files) (images : D → Files → Type 0) (moment : D → ℕ) (since : D → ℕ → Files → Type 0)
    (status : Status) (new_file : List ℕ → Type 0) (old_one : Files → Type 0) (new_one : List ℕ → Files → Type 0) (old new : D) : Type 0 where
  pub file : List ℕ
  pub is_new : new_file file
  pub any_moment : LeavesOnly moment since old new (λ image. old_one image ⊎ new_one file image)
  pub at_exit : AtExit status old_one (new_one file) (images new)
  pub is_main : status ≡ Done → bytes_of (reads new).main ≡ Some file
  pub no_journal : status ≡ Done → Each (images new) (λ image. image.journal ≡ None)

-- no image had another than the old one
pub record KeepsOld {D : Type 0} (moment : D → ℕ) (since : D → ℕ → Files → Type 0) (status : Status) (old_one : Files → Type 0) (old new : D) : Type 0 where
  pub any_moment : LeavesOnly moment since old new old_one
  pub not_done : status ≡ Done → ⊥

abbrev pub KeepsOrCommits : {D : Type 0} → (D → Files) → (D → Files → Type 0) → (D → ℕ) → (D → ℕ → Files → Type 0)
    → Status → (List ℕ → Type 0) → (Files → Type 0) → (List ℕ → Files → Type 0) → D → D → Type 0
KeepsOrCommits reads images moment since status new_file old_one new_one old new =
    KeepsOld moment since status old_one old new ⊎ Commits reads images moment since status new_file old_one new_one old new
