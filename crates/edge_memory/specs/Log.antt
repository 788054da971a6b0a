-- What a disk in memory reads as, and what a crash may leave of it: from the files at its start and the calls that were done since.
use Rattle.std.specs.Prelude.{◌≡◌, ◌⊎◌, ℕ, ◌+◌, ◌≤◌, List, [], ◌∷◌, length, take, reverse, Option, Some, None, Vec}
use Rattle.std.specs.declared.alloc.Global.{Global}
use Rattle.edge_model.specs.Files.{File, Files, file_at, put_at, bytes_of, with_file_bytes, written, created, removed, renamed, Torn, Shorter}
use Rattle.edge_model.specs.Images.{Changes, Renames, HasSynced, SameNames}
use Rattle.edge_model.specs.declared.role.Role.{Role}
use Rattle.edge_model.specs.declared.role.Role.TheVariants.{Main, Journal, Fresh}
use Rattle.edge_memory.specs.declared.mem_disk.contents.Contents.{Contents}
use Rattle.edge_memory.specs.declared.mem_disk.contents.Call.{Call}
use Rattle.edge_memory.specs.declared.mem_disk.contents.Call.TheVariants.{Write, Cut, Sync, Create, Remove, Rename, SyncFolder}

abbrev pub file_of : ℕ → Option (Vec ℕ Global) → Option File
file_of number None = None
file_of number (Some bytes) = Some (record { number = number; bytes = bytes.items })

abbrev pub items_of : Option (Vec ℕ Global) → Option (List ℕ)
items_of None = None
items_of (Some bytes) = Some bytes.items

-- what each role has, without the numbers
pub record Shown : Type 0 where
  pub main : Option (List ℕ)
  pub journal : Option (List ℕ)
  pub fresh : Option (List ℕ)

abbrev pub showing : Contents → Shown
showing now = record { main = items_of now.main; journal = items_of now.journal; fresh = items_of now.fresh }

abbrev pub shown_of : Files → Shown
shown_of files = record { main = bytes_of files.main; journal = bytes_of files.journal; fresh = bytes_of files.fresh }

abbrev pub shown_at : Shown → Role → Option (List ℕ)
shown_at shows Main = shows.main
shown_at shows Journal = shows.journal
shown_at shows Fresh = shows.fresh

abbrev pub put_shown : Shown → Role → Option (List ℕ) → Shown
put_shown shows Main bytes = record { main = bytes; journal = shows.journal; fresh = shows.fresh }
put_shown shows Journal bytes = record { main = shows.main; journal = bytes; fresh = shows.fresh }
put_shown shows Fresh bytes = record { main = shows.main; journal = shows.journal; fresh = bytes }

abbrev pub change_bytes : (List ℕ → List ℕ) → Option (List ℕ) → Option (List ℕ)
change_bytes change None = None
change_bytes change (Some bytes) = Some (change bytes)

-- the files at the start, with the numbers 0, 1 and 2
abbrev pub files_of : Contents → Files
files_of start = record { main = file_of 0 start.main; journal = file_of 1 start.journal; fresh = file_of 2 start.fresh }

-- the number of a file that is created after these calls
abbrev pub next_number : List Call → ℕ
next_number calls = 3 + length calls

-- what is read after a call
abbrev pub after : Call → ℕ → Files → Files
after (Write role at bytes) number now = put_at now role (with_file_bytes (written at bytes.items) (file_at now role))
after (Cut role len) number now = put_at now role (with_file_bytes (take len) (file_at now role))
after (Sync role) number now = now
after (Create role) number now = created role number now
after (Remove role) number now = removed role now
after Rename number now = renamed now
after SyncFolder number now = now

-- the calls, the newest first
abbrev pub reads_after : Files → List Call → Files
reads_after start [] = start
reads_after start (call ∷ earlier) = after call (next_number earlier) (reads_after start earlier)

-- what a crash may leave after a call, from what it might leave before
abbrev pub LeftBy : Call → ℕ → Files → (Files → Type 0) → Files → Type 0
LeftBy (Write role at bytes) number now images c = (d : Files) × images d × Changes role (Torn at (length bytes.items)) now d c
LeftBy (Cut role len) number now images c = (d : Files) × images d × Changes role (Shorter len) now d c
LeftBy (Sync role) number now images c = images c × HasSynced role now c
LeftBy (Create role) number now images c = (d : Files) × images d × Renames (created role number) now d c
LeftBy (Remove role) number now images c = (d : Files) × images d × Renames (removed role) now d c
LeftBy Rename number now images c = (d : Files) × images d × Renames renamed now d c
LeftBy SyncFolder number now images c = images c × SameNames now c

abbrev pub ImagesAfter : Files → List Call → Files → Type 0
ImagesAfter start [] c = c ≡ start
ImagesAfter start (call ∷ earlier) c = LeftBy call (next_number earlier) (reads_after start earlier) (ImagesAfter start earlier) c

-- what a crash might have left when t or more of the calls were done
abbrev pub SinceAfter : Files → List Call → ℕ → Files → Type 0
SinceAfter start [] t c = ImagesAfter start [] c
SinceAfter start (call ∷ earlier) t c = ImagesAfter start (call ∷ earlier) c ⊎ ((t ≤ length earlier) × SinceAfter start earlier t c)

abbrev pub newest_first : List Call → List Call
newest_first calls = reverse calls
