-- What looks tell of the three files, and what they have to tell before a change.
use Rattle.std.specs.Prelude.{◌≡◌, ℕ, Bool, ◌==◌, if◌then◌else◌, false, List, [], ◌∷◌, take, Option, Some, None, is_some, IsTrue}
use Rattle.std.specs.Option.{option_map}
use Rattle.edge_files.specs.Purposes.{is_on_log}
use Rattle.edge_files.specs.declared.beside.SeenLog.{SeenLog}
use Rattle.edge_files.specs.declared.folder.Folder.{Folder}
use Rattle.edge_files.specs.declared.purpose.Purpose.TheVariants.{LayLog}
use Rattle.edge_files.specs.declared.role_file.RoleFile.{RoleFile}
use Rattle.edge_model.specs.Files.{contents}
use Rattle.edge_model.specs.declared.role.Role.{Role}
use Rattle.system_calls.specs.System.{System, name_at, opened}
use Rattle.system_calls.specs.declared.found.Found.{Found}
use Rattle.system_calls.specs.declared.found.Identity.{Identity}
use Rattle.system_calls.specs.declared.found.Mark.{Mark}

pub record Looks : Type 0 where
  -- what has the name of this role
  pub at_name : Role → Option Found
  -- what is open in its place, whatever has the name
  pub at_place : Role → Option Found
  -- the bytes of what is open
  pub bytes : Role → List ℕ

-- what looks tell at this moment
abbrev pub looks_at : {C : Type 0} → (C → System) → (C → ℕ → Found) → C → Looks
looks_at system found calls =
    record {
      at_name = λ name. option_map (found calls) (name_at (system calls).names name);
      at_place = λ place. option_map (found calls) (name_at (system calls).places place);
      bytes = λ place. contents (opened (system calls) place);
    }

abbrev pub is_zero : ℕ → Bool
is_zero byte = byte == 0

-- Where a file is open, its name still leads to it.
abbrev pub IsStillNamed : Looks → RoleFile → Type 0
IsStillNamed looks file = (it : Identity) → file.identity ≡ Some it → option_map (λ (what : Found). what.identity) (looks.at_name file.role) ≡ Some it

-- when the open file was last written, and its length; none where none is open
abbrev pub mark_at : Looks → RoleFile → Option Mark
mark_at looks file = if is_some file.identity then option_map (λ (what : Found). what.mark) (looks.at_place file.role) else None

-- Where a file is open of which the first byte is known, it begins with that byte, and what has its name has the length that is known.
abbrev pub IsAsLeft : Looks → RoleFile → Option ℕ → Type 0
IsAsLeft looks file gate =
    (it : Identity) → (first : ℕ) → file.identity ≡ Some it → gate ≡ Some first
    → (option_map (λ (what : Found). what.mark.length) (looks.at_name file.role) ≡ file.known) × (take 1 (looks.bytes file.role) ≡ first ∷ [])

-- what is noted of the files is the same, and of the log that was seen
pub record SameNotes (old new : Folder) : Type 0 where
  pub main : new.main ≡ old.main
  pub journal : new.journal ≡ old.journal
  pub fresh : new.fresh ≡ old.fresh
  pub mark : new.mark ≡ old.mark
  pub gate : new.gate ≡ old.gate
  pub purpose : new.purpose ≡ old.purpose
  pub seen : (log : SeenLog) → old.seen ≡ Some log → new.seen ≡ Some log
  pub entered : new.is_entered ≡ old.is_entered

-- What a change is compared with is not noted anew. Of the byte and the length of the journal clauses of their own speak.
pub record KeptNotes (old new : Folder) : Type 0 where
  pub main : IsTrue (is_some old.main.identity) → new.main ≡ old.main
  pub journal : IsTrue (is_some old.journal.identity) → new.journal ≡ old.journal
  pub mark : new.mark ≡ old.mark
  pub purpose : new.purpose ≡ old.purpose
  pub seen : (log : SeenLog) → old.seen ≡ Some log → new.seen ≡ Some log
  pub entered : new.is_entered ≡ old.is_entered

-- A log that is laid was read before, and nobody has written to it since.
abbrev pub IsLogAsSeen : Looks → Folder → Type 0
IsLogAsSeen looks folder = (log : SeenLog) × (folder.seen ≡ Some log) × (mark_at looks folder.journal ≡ log.mark)

-- Nobody has come in between, as far as looks tell: the open files have their names, Main is as this run left it, and so is the journal.
pub record IsGuarded (looks : Looks) (folder : Folder) : Type 0 where
  pub named : IsStillNamed looks folder.main
  pub unwritten : mark_at looks folder.main ≡ folder.mark
  pub journal : IsStillNamed looks folder.journal
  pub left : is_on_log folder.purpose ≡ false → IsAsLeft looks folder.journal folder.gate
  pub log : folder.purpose ≡ LayLog → IsLogAsSeen looks folder
