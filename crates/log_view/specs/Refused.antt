-- When a file is read through its log, and why it is not.
use Rattle.std.specs.Prelude.{ℕ, ◌≡◌, ◌⊎◌, ◌<◌, ◌≤◌, ◌^◌, Err, IsOk}
use Rattle.edge_model.specs.Files.{Files}
use Rattle.log_format.specs.Logs.{committed_frames, logged_count}
use Rattle.log_recovery.specs.Laying.{log_of, IsTaken}
use Rattle.log_recovery.specs.Opened.{log_answer_to}
use Rattle.log_recovery.specs.declared.laying.LogReading.{LogReading}
use Rattle.log_view.specs.View.{ReachesEnd}
use Rattle.log_view.specs.declared.opening.ViewError.{ViewError}
use Rattle.log_view.specs.declared.opening.ViewError.TheVariants.{Log, TooLarge, TooLong, Short, LogCut, DiskFault, OutOfMemory}

-- no table is made for a log: its database has more pages than so many, or it has too many frames, or memory runs out
abbrev pub IsTableRefused : LogReading → ℕ → ViewError → Type 0
IsTableRefused reading most (Log why) = ⊥
IsTableRefused reading most (TooLarge pages) = (pages ≡ reading.pages) × (most < pages)
IsTableRefused reading most (TooLong frames) = (frames ≡ reading.frames) × (2 ^ 32 ≤ frames)
IsTableRefused reading most (Short pages) = ⊥
IsTableRefused reading most LogCut = ⊥
IsTableRefused reading most DiskFault = ⊥
IsTableRefused reading most OutOfMemory = Unit {0}

-- no index is made of a log, for which there is a table: the files are too short, or the disk fails
abbrev pub IsIndexRefused : ℕ → Files → ViewError → Type 0
IsIndexRefused size files (Log why) = ⊥
IsIndexRefused size files (TooLarge pages) = ⊥
IsIndexRefused size files (TooLong frames) = ⊥
IsIndexRefused size files (Short pages) = (pages ≡ logged_count size (log_of files)) × (ReachesEnd size files → ⊥)
IsIndexRefused size files LogCut = ⊥
IsIndexRefused size files DiskFault = Unit {0}
IsIndexRefused size files OutOfMemory = ⊥

-- Each refusal is due to the files, but for a fault and want of memory. While they are looked at no log is cut.
abbrev pub IsViewRefused : ℕ → ℕ → Files → ViewError → Type 0
IsViewRefused size most files (Log why) = log_answer_to size files ≡ Err why
IsViewRefused size most files (TooLarge pages) = IsTaken size files × (pages ≡ logged_count size (log_of files)) × (most < pages)
IsViewRefused size most files (TooLong frames) = IsTaken size files × (frames ≡ committed_frames size (log_of files)) × (2 ^ 32 ≤ frames)
IsViewRefused size most files (Short pages) = IsTaken size files × (pages ≡ logged_count size (log_of files)) × (ReachesEnd size files → ⊥)
IsViewRefused size most files LogCut = ⊥
IsViewRefused size most files DiskFault = Unit {0}
IsViewRefused size most files OutOfMemory = Unit {0}

-- No refusal is due to the files: the log is one that would be laid, or it holds nothing, or is not there. Where it would be laid, its
-- database has at most so many pages, of which the last is there, and it has less than 2^32 frames.
pub record IsViewTaken (size most : ℕ) (files : Files) : Type 0 where
  pub answer : IsOk (log_answer_to size files)
  pub pages : IsTaken size files → logged_count size (log_of files) ≤ most
  pub frames : IsTaken size files → committed_frames size (log_of files) < 2 ^ 32
  pub end : IsTaken size files → ReachesEnd size files

-- it is a refusal that is due to no file
abbrev pub IsOutside : ViewError → Type 0
IsOutside why = (why ≡ DiskFault) ⊎ (why ≡ OutOfMemory)
