-- What a folder in memory has, as a system.
use Rattle.std.specs.Prelude.{ℕ, pos, true, length, ◌+◌, ◌==◌, if◌then◌else◌, List, [], ◌∷◌, map, get_or, Option, Some, None, unwrap_or, Vec}
use Rattle.std.specs.declared.alloc.Global.{Global}
use Rattle.edge_model.specs.Files.{File, Files}
use Rattle.edge_model.specs.declared.role.Role.{Role}
use Rattle.system_calls.specs.System.{Names, System, file_of, name_at}
use Rattle.system_calls.specs.declared.found.Found.{Found}
use Rattle.call_memory.specs.declared.folder.Folder.{Folder}
use Rattle.call_memory.specs.declared.folder.Slots.{Slots}

abbrev pub names_of : Slots → Names
names_of slots = record { main = slots.main; journal = slots.journal; fresh = slots.fresh }

-- 1 where this is the file's number, else 0
abbrev pub leads_to : Option ℕ → ℕ → ℕ
leads_to None n = 0
leads_to (Some there) n = if there == n then 1 else 0

-- how many of the names lead to the file
abbrev pub names_to : Names → ℕ → ℕ
names_to names n = leads_to names.main n + leads_to names.journal n + leads_to names.fresh n

-- the number that is there, or 0
abbrev pub number_at : Names → Role → ℕ
number_at names role = unwrap_or (name_at names role) 0

-- the bytes of each file, by number
abbrev pub lists_of : Vec (Vec ℕ Global) Global → List (List ℕ)
lists_of files = map (λ (file : Vec ℕ Global). file.items) files.items

-- the names of a folder, and the bytes of each file by number
pub record State : Type 0 where
  pub names : Names
  pub lists : List (List ℕ)

abbrev pub state_of : Folder → State
state_of folder = record { names = names_of folder.names; lists = lists_of folder.files }

-- the bytes of one, and none of a file that is not made yet
abbrev pub held_in : State → ℕ → List ℕ
held_in s n = get_or s.lists n []

-- the file with this number
abbrev pub file_in : State → ℕ → Option File
file_in s n = file_of (held_in s) (Some n)

-- A look at a file tells its number as that of its inode, its length, and how many names lead to it. All else is alike of every file.
abbrev pub found_as : ℕ → ℕ → ℕ → Found
found_as number size names =
    record {
      is_regular = true;
      identity = record { device = 1; inode = number };
      mark = record { seconds = pos 0; nanoseconds = pos 0; length = size };
      mode = 420;
      owner = 1000;
      group = 1000;
      names = names;
    }

-- what a look tells of the file with this number
abbrev pub found_in : State → ℕ → Found
found_in s n = found_as n (length (held_in s n)) (names_to s.names n)

-- what the names lead to
abbrev pub shown_in : State → Files
shown_in s = record { main = file_of (held_in s) s.names.main; journal = file_of (held_in s) s.names.journal; fresh = file_of (held_in s) s.names.fresh }

-- a folder, and what is open
abbrev pub system_in : State → Names → System
system_in s places = record { names = s.names; places = places; held = held_in s }

abbrev pub numbered_if : ℕ → Option (List ℕ) → Option ℕ
numbered_if n None = None
numbered_if n (Some bytes) = Some n

-- these files, with the numbers 0, 1 and 2
abbrev pub state_with : Option (List ℕ) → Option (List ℕ) → Option (List ℕ) → State
state_with main journal fresh =
    record {
      names = record { main = numbered_if 0 main; journal = numbered_if 1 journal; fresh = numbered_if 2 fresh };
      lists = unwrap_or main [] ∷ unwrap_or journal [] ∷ unwrap_or fresh [] ∷ [];
    }
