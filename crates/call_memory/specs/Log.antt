-- What a folder in memory has, and what a stop may leave of it, from its start and the changes that were done since. The images
-- are the most that the clauses of the calls allow.
use Rattle.std.specs.Prelude.{◌≡◌, ◌⊎◌, ℕ, ◌≤◌, List, [], ◌∷◌, ◌++◌, length, take, reverse, set, None, Some}
use Rattle.edge_model.specs.Files.{Files, created, removed, renamed, written, Torn, Shorter}
use Rattle.edge_model.specs.Images.{From, Renames, SameNames}
use Rattle.system_calls.specs.System.{put_name, FileSteps, FileSynced}
use Rattle.call_memory.specs.Folder.{State, held_in, file_in, shown_in}
use Rattle.call_memory.specs.declared.done.Done.{Done}
use Rattle.call_memory.specs.declared.done.Done.TheVariants.{Write, Cut, Sync, Create, Remove, Rename, SyncFolder}

-- the file with this number is changed
abbrev pub changing : (List ℕ → List ℕ) → ℕ → State → State
changing change n s = record { names = s.names; lists = set s.lists n (change (held_in s n)) }

-- what the folder has after a change
abbrev pub after : Done → State → State
after (Write n at bytes) s = changing (written at bytes.items) n s
after (Cut n len) s = changing (take len) n s
after (Sync n) s = s
after (Create name) s = record { names = put_name s.names name (Some (length s.lists)); lists = s.lists ++ [] ∷ [] }
after (Remove name) s = record { names = put_name s.names name None; lists = s.lists }
after Rename s = record { names = record { main = s.names.fresh; journal = s.names.journal; fresh = None }; lists = s.lists }
after SyncFolder s = s

-- what a stop may leave after a change, from what it might leave before
abbrev pub LeftBy : Done → State → (Files → Type 0) → Files → Type 0
LeftBy (Write n at bytes) s images c = From (FileSteps (Torn at (length bytes.items)) (file_in s n)) images c
LeftBy (Cut n len) s images c = From (FileSteps (Shorter len) (file_in s n)) images c
LeftBy (Sync n) s images c = images c × FileSynced (file_in s n) c
LeftBy (Create name) s images c = From (Renames (created name (length s.lists)) (shown_in s)) images c
LeftBy (Remove name) s images c = From (Renames (removed name) (shown_in s)) images c
LeftBy Rename s images c = From (Renames renamed (shown_in s)) images c
LeftBy SyncFolder s images c = images c × SameNames (shown_in s) c

-- the changes, the newest first
abbrev pub state_after : State → List Done → State
state_after start [] = start
state_after start (last ∷ earlier) = after last (state_after start earlier)

abbrev pub ImagesAfter : State → List Done → Files → Type 0
ImagesAfter start [] c = c ≡ shown_in start
ImagesAfter start (last ∷ earlier) c = LeftBy last (state_after start earlier) (ImagesAfter start earlier) c

-- what a stop might have left when t or more of the changes were done
abbrev pub SinceAfter : State → List Done → ℕ → Files → Type 0
SinceAfter start [] t c = ImagesAfter start [] c
SinceAfter start (last ∷ earlier) t c = ImagesAfter start (last ∷ earlier) c ⊎ ((t ≤ length earlier) × SinceAfter start earlier t c)

abbrev pub newest_first : List Done → List Done
newest_first log = reverse log
