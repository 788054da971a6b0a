-- What a disk reads as through the log beside its Main. Here Journal is the log. A page size is in bytes, frames are numbered from 0.
use Rattle.std.specs.Prelude.{ℕ, zero, suc, ◌≡◌, ◌+◌, ◌-◌, ◌/◌, ◌%◌, ◌<◌, ◌≤◌, max, ◌==◌, if◌then◌else◌, List, get_or, None, length}
use Rattle.edge_model.specs.Files.{Files, bytes_of, main_of, with_file_bytes}
use Rattle.log_format.specs.Frames.{frame_page}
use Rattle.log_format.specs.Logs.{frame_bytes_at, frame_start, logged}
use Rattle.log_recovery.specs.Laying.{log_of}
use Rattle.log_recovery.specs.Opened.{log_end, opened_by_log}
use Rattle.rollback_journal.specs.Laying.{reach}

-- Main is what the pair opens to, and no other file is there
abbrev pub viewed : ℕ → Files → Files
viewed size files = record { main = with_file_bytes (λ main. opened_by_log size main (bytes_of files.journal)) files.main; journal = None; fresh = None }

-- one of these images, so read
abbrev pub ViewedOf : ℕ → (Files → Type 0) → Files → Type 0
ViewedOf size images c = (d : Files) × images d × (c ≡ viewed size d)

-- Of n frames from number k on, the number behind the last one of this page. Where there is none it is `old`.
abbrev pub last_frame : ℕ → List ℕ → ℕ → ℕ → ℕ → ℕ → ℕ
last_frame size log zero k page old = old
last_frame size log (suc n) k page old =
    last_frame size log n (suc k) page (if frame_page (frame_bytes_at size log k) == page then suc k else old)

-- The byte at this place of Main, or at this offset of the page of the frame before that number; 0 where no file has it.
abbrev pub looked : ℕ → List ℕ → List ℕ → ℕ → ℕ → ℕ → ℕ
looked size main log i offset zero = get_or main i 0
looked size main log i offset (suc k) = get_or log (frame_start size k + 24 + offset) 0

-- the byte that a table of such numbers, page 1 first, leads to
abbrev pub through : ℕ → List ℕ → Files → ℕ → ℕ
through size table files i = looked size (main_of files) (log_of files) i (i % size) (get_or table (i / size) 0)

-- each byte of the view is where the table leads to
abbrev pub IsIndexed : ℕ → List ℕ → Files → Type 0
IsIndexed size table files = (i : ℕ) → i < length (main_of (viewed size files)) → get_or (main_of (viewed size files)) i 0 ≡ through size table files i

-- the table of a log: the last committed frame of each page of the database
abbrev pub IsTable : ℕ → List ℕ → List ℕ → ℕ → Type 0
IsTable size table log frames = (page : ℕ) → 1 ≤ page → page ≤ length table → get_or table (page - 1) 0 ≡ last_frame size log frames 0 page 0

-- each frame that the table names ends within the log
abbrev pub IsHeldByLog : ℕ → List ℕ → Files → Type 0
IsHeldByLog size table files = (row : ℕ) → 0 < get_or table row 0 → frame_start size (get_or table row 0) ≤ length (log_of files)

-- Main or a page of the log reaches the end of the database after the last commit
abbrev pub ReachesEnd : ℕ → Files → Type 0
ReachesEnd size files = log_end size (log_of files) ≤ max (length (main_of files)) (reach size (logged size (log_of files)))
