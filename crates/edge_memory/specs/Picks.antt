-- Three images of a disk in memory.
use Rattle.std.specs.Prelude.{ℕ, ◌+◌, ◌-◌, List, [], ◌∷◌, ◌++◌, length, take, map, replicate, Option, Some, None, if◌then◌else◌, ◌==◌}
use Rattle.edge_model.specs.Files.{File, Files, file_at, put_at, with_file_bytes, spliced, created, removed, renamed}
use Rattle.edge_memory.specs.Log.{next_number, reads_after}
use Rattle.edge_memory.specs.declared.mem_disk.contents.Call.{Call}
use Rattle.edge_memory.specs.declared.mem_disk.contents.Call.TheVariants.{Write, Cut, Sync, Create, Remove, Rename, SyncFolder}
use Rattle.edge_memory.specs.declared.pick.ImagePick.{ImagePick}
use Rattle.edge_memory.specs.declared.pick.ImagePick.TheVariants.{Lost, Kept, Torn}
use Rattle.edge_model.specs.declared.role.Role.{Role}
use Rattle.edge_model.specs.declared.role.Role.TheVariants.{Main, Journal, Fresh}

-- the file, or what is read of it where it is the one that is read
abbrev pub as_read : Option File → Option File → Option File
as_read None file = file
as_read (Some now) None = None
as_read (Some now) (Some file) = if now.number == file.number then Some now else Some file

-- the image in which the file that has the role is as it reads
abbrev pub as_synced : Role → Files → Files → Files
as_synced Main now c = record { main = as_read now.main c.main; journal = c.journal; fresh = as_read now.main c.fresh }
as_synced Journal now c = record { main = c.main; journal = as_read now.journal c.journal; fresh = c.fresh }
as_synced Fresh now c = record { main = c.main; journal = c.journal; fresh = as_read now.fresh c.fresh }

-- all names, and of each file what was last synced
abbrev pub bare_step : Call → ℕ → Files → Files → Files
bare_step (Write role at bytes) number now d = d
bare_step (Cut role len) number now d = d
bare_step (Sync role) number now d = as_synced role now d
bare_step (Create role) number now d = created role number d
bare_step (Remove role) number now d = removed role d
bare_step Rename number now d = renamed d
bare_step SyncFolder number now d = d

-- nothing since the last syncs
abbrev pub lost_step : Call → Files → Files → Files → Files
lost_step (Write role at bytes) now bare d = d
lost_step (Cut role len) now bare d = d
lost_step (Sync role) now bare d = as_synced role now d
lost_step (Create role) now bare d = d
lost_step (Remove role) now bare d = d
lost_step Rename now bare d = d
lost_step SyncFolder now bare d = bare

-- a write that leaves 255 - b for each byte b, those of the gap included
abbrev pub torn_write : ℕ → List ℕ → List ℕ → List ℕ
torn_write at [] old = old
torn_write at (byte ∷ bytes) old = let all = map (λ b. 255 - b) (byte ∷ bytes) in spliced at all (old ++ replicate (at + length all - length old) 255)

-- all that was done, with each unsynced byte b turned into 255 - b
abbrev pub torn_step : Call → ℕ → Files → Files → Files
torn_step (Write role at bytes) number now d = put_at d role (with_file_bytes (torn_write at bytes.items) (file_at d role))
torn_step (Cut role len) number now d = put_at d role (with_file_bytes (take len) (file_at d role))
torn_step (Sync role) number now d = as_synced role now d
torn_step (Create role) number now d = created role number d
torn_step (Remove role) number now d = removed role d
torn_step Rename number now d = renamed d
torn_step SyncFolder number now d = d

-- the calls, the newest first
abbrev pub bare_after : Files → List Call → Files
bare_after start [] = start
bare_after start (call ∷ earlier) = bare_step call (next_number earlier) (reads_after start earlier) (bare_after start earlier)

abbrev pub lost_after : Files → List Call → Files
lost_after start [] = start
lost_after start (call ∷ earlier) = lost_step call (reads_after start earlier) (bare_after start earlier) (lost_after start earlier)

abbrev pub torn_after : Files → List Call → Files
torn_after start [] = start
torn_after start (call ∷ earlier) = torn_step call (next_number earlier) (reads_after start earlier) (torn_after start earlier)

-- the image that is asked for
abbrev pub picked : ImagePick → Files → List Call → Files
picked Lost start calls = lost_after start calls
picked Kept start calls = reads_after start calls
picked Torn start calls = torn_after start calls
