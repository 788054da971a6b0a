-- What a stop leaves of the disk, at each moment of a script.
use Rattle.std.specs.Prelude.{◌≡◌, ◌⊎◌, ◌<◌, ℕ, List, [], ◌∷◌, length, Option, Some, None}
use Rattle.edge_model.specs.Files.{Files, main_of}
use Rattle.cipher_profile.specs.declared.profile.Profile.{Profile}
use Rattle.session_hall.specs.Commit.{HoldsSessionPages}
use Rattle.session_hall.specs.Kept.{IsHallSettled}
use Rattle.session_hall.specs.Machine.{HasSessionChanges, HallState}
use Rattle.session_hall.specs.Session.{Session, session_at}
use Rattle.session_hall.specs.declared.step.Answer.{Answer}
use Rattle.session_hall.specs.declared.step.Answer.TheVariants.{Done, Page, Busy, Refused, TagRefused, Misuse, Down, DiskFault, EntropyFault, OutOfMemory}
use Rattle.session_hall.specs.declared.step.Step.TheVariants.{Commit}
use Rattle.session_play.specs.Reply.{Reply}
use Rattle.session_play.specs.Script.{step_of}
use Rattle.session_play.specs.declared.script.ScriptStep.{ScriptStep}

-- Main has these bytes, and beside a Main with a byte is no Journal: the image recovers to this file alone.
pub record HasMain (file : List ℕ) (image : Files) : Type 0 where
  pub main : main_of image ≡ file
  pub alone : 0 < length file → image.journal ≡ None

-- the image holds the pages from before this session's commit
abbrev pub IsBeforeCommit : Session → List ℕ → Files → Type 0
IsBeforeCommit session file image = HoldsSessionPages session file file image

-- the image holds the pages of the file that the commit makes
abbrev pub HoldsMade : Session → List ℕ → Option (List ℕ) → Files → Type 0
HoldsMade session file None image = ⊥
HoldsMade session file (Some made) image = HasSessionChanges session file made × HoldsSessionPages session file made image

-- It holds the one or the other.
abbrev pub IsInCommit : Session → List ℕ → Option (List ℕ) → Files → Type 0
IsInCommit session file made image = IsBeforeCommit session file image ⊎ HoldsMade session file made image

-- So it is within a commit that is answered so. One that is answered otherwise wrote nothing, and where the entropy failed, nothing was
-- written over the old pages.
abbrev pub IsInAnswered : Answer → Session → List ℕ → Option (List ℕ) → Files → Type 0
IsInAnswered Done session file made image = IsInCommit session file made image
IsInAnswered Page session file made image = ⊥
IsInAnswered Busy session file made image = ⊥
IsInAnswered (Refused error) session file made image = ⊥
IsInAnswered (TagRefused page) session file made image = ⊥
IsInAnswered Misuse session file made image = ⊥
IsInAnswered Down session file made image = ⊥
IsInAnswered DiskFault session file made image = IsInCommit session file made image
IsInAnswered EntropyFault session file made image = IsBeforeCommit session file image
IsInAnswered OutOfMemory session file made image = ⊥

-- within a step that is answered so, the file stands as it was; within a commit its pages are those from before or after it
abbrev pub IsInStep : Option ScriptStep → Answer → Option (List ℕ) → HallState → Files → Type 0
IsInStep None answer made old image = ⊥
IsInStep (Some entry) answer made old image =
    HasMain old.file image ⊎ ((entry.step ≡ Commit) × IsInAnswered answer (session_at old.sessions entry.session) old.file made image)

-- the machine's state behind the replies
abbrev pub state_behind : HallState → List Reply → HallState
state_behind old [] = old
state_behind old (reply ∷ replies) = state_behind reply.after replies

-- the image is of a moment within one of the steps, or behind the last
abbrev pub IsOnWay : Profile → HallState → List Reply → Files → Type 0
IsOnWay layout old [] image = HasMain old.file image
IsOnWay layout old (reply ∷ replies) image = IsInStep (step_of layout reply.line) reply.answer reply.made old image ⊎ IsOnWay layout reply.after replies image

-- What a disk tells: what it reads as, what a crash may leave of it now, and what one may have left at some moment since.
pub record DiskTold (D : Type 0) : Type 1 where
  pub reads : D → Files
  pub images : D → Files → Type 0
  pub moment : D → ℕ
  pub since : D → ℕ → Files → Type 0

abbrev pub disk_told : {D : Type 0} → (D → Files) → (D → Files → Type 0) → (D → ℕ) → (D → ℕ → Files → Type 0) → DiskTold D
disk_told reads images moment since = record { reads = reads; images = images; moment = moment; since = since }

-- Main reads as this file, and no crash now leaves anything but Main and Journal as they read: of a file with a byte, Main alone.
pub record StandsAs (file : List ℕ) (now : Files) (images : Files → Type 0) : Type 0 where
  pub main : main_of now ≡ file
  pub settled : IsHallSettled now images
