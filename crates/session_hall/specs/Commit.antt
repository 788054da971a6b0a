-- What a commit writes, and what it leaves of the disk at each moment.
use Rattle.std.specs.Prelude.{◌≡◌, ◌⊎◌, ◌==◌, ℕ, List, drop, Option, Some, None, if◌then◌else◌}
use Rattle.edge_model.specs.Files.{Files, main_of}
use Rattle.edge_model.specs.Images.{LeavesOnly}
use Rattle.edge_model.specs.OnlyRead.{OnlyRead}
use Rattle.atomic_commit.specs.Commit.{LeavesChanged}
use Rattle.atomic_commit.specs.Database.{Base, HoldsPages, stored_pages}
use Rattle.pager.specs.Base.{base_of}
use Rattle.pager.specs.Changed.{with_bytes}
use Rattle.session_hall.specs.Draws.{IsMadeBy}
use Rattle.session_hall.specs.Key.{codec_of}
use Rattle.session_hall.specs.Kept.{StandsAsRead}
use Rattle.session_hall.specs.Machine.{HasSessionChanges, committed}
use Rattle.session_hall.specs.Session.{Session, change_of}
use Rattle.session_hall.specs.declared.step.Step.{Step}
use Rattle.session_hall.specs.declared.step.Step.TheVariants.{Commit}
use Rattle.session_hall.specs.declared.step.Answer.{Answer}
use Rattle.session_hall.specs.declared.step.Answer.TheVariants.{Done, Page, Busy, Refused, TagRefused, Misuse, Down, DiskFault, EntropyFault, OutOfMemory}

-- ---- pages

abbrev pub put_change : ℕ → Option (List ℕ) → List ℕ → List ℕ
put_change n None page = page
put_change n (Some changed) page = if n == 1 then with_bytes 100 (drop 100 changed) page else changed

-- what the commit writes for plain page n: of page 1 the part behind the header, which is all that the session may have changed there
abbrev pub put_over : Session → ℕ → List ℕ → List ℕ
put_over session n page = put_change n (change_of n session.changes) page

-- ---- the disk

-- what the session's commit starts from: the stored pages of the file, by its codec
abbrev pub base_by : Session → List ℕ → Base
base_by session file = base_of (codec_of session.access file) file session.pages

-- The image recovers to files with the stored pages of `main` alone, as many as the session's codec counts in the file.
abbrev pub HoldsSessionPages : Session → List ℕ → List ℕ → Files → Type 0
HoldsSessionPages session file main image =
    HoldsPages (base_by session file) (stored_pages (base_by session file).size session.pages main) image

-- At each moment each image has the pages of before, or there is one file that the commit makes, and it has those or that file's.
abbrev pub Commitment : {D : Type 0} → (D → ℕ) → (D → ℕ → Files → Type 0) → Session → List ℕ → Type 0 → List ℕ → List ℕ → D → D → Type 0
Commitment moment since session file told before after old new = LeavesChanged moment since (base_by session file) (IsMadeBy session file told before after) old new

-- the hall is not down after it
abbrev pub IsUp : Answer → Type 0
IsUp Done = Unit {0}
IsUp Page = Unit {0}
IsUp Busy = Unit {0}
IsUp (Refused error) = Unit {0}
IsUp (TagRefused page) = Unit {0}
IsUp Misuse = Unit {0}
IsUp Down = Unit {0}
IsUp DiskFault = ⊥
IsUp EntropyFault = ⊥
IsUp OutOfMemory = Unit {0}

-- what the session's own commit comes to: the file, and the session after it
abbrev pub CommitsTo : Session → List ℕ → Answer → List ℕ → Session → Type 0
CommitsTo session file Done after now = HasSessionChanges session file after × (now ≡ committed session)
CommitsTo session file DiskFault after now = now ≡ session
CommitsTo session file EntropyFault after now = now ≡ session
CommitsTo session file OutOfMemory after now = (after ≡ file) × (now ≡ session)
CommitsTo session file answer after now = ⊥

-- why a commit stops: the disk or the entropy fails, or memory is wanted while the disk has only been read
abbrev pub StopsCommit : {D : Type 0} → (D → Files) → (D → Files → Type 0) → (D → ℕ) → (D → ℕ → Files → Type 0) → D → D → Answer → Type 0
StopsCommit reads images moment since old new DiskFault = Unit {0}
StopsCommit reads images moment since old new EntropyFault = Unit {0}
StopsCommit reads images moment since old new OutOfMemory = OnlyRead reads images moment since old new
StopsCommit reads images moment since old new answer = ⊥

-- a commit that is answered so may have written something
abbrev pub MayHaveWritten : Answer → Type 0
MayHaveWritten Done = Unit {0}
MayHaveWritten Page = ⊥
MayHaveWritten Busy = ⊥
MayHaveWritten (Refused error) = ⊥
MayHaveWritten (TagRefused page) = ⊥
MayHaveWritten Misuse = ⊥
MayHaveWritten Down = ⊥
MayHaveWritten DiskFault = Unit {0}
MayHaveWritten EntropyFault = Unit {0}
MayHaveWritten OutOfMemory = ⊥

-- nothing is written, or the session's commit is under way, which is answered so
abbrev pub CommitLeaves : {D : Type 0} → (D → Files) → (D → ℕ) → (D → ℕ → Files → Type 0) → Answer → Session → Type 0 → List ℕ → List ℕ → D → D → Type 0
CommitLeaves reads moment since answer session told before after old new =
    LeavesOnly moment since old new (StandsAsRead (reads old)) ⊎ (MayHaveWritten answer × Commitment moment since session (main_of (reads old)) told before after old new)

-- At each moment of a step each image has Main and Journal as they read at its start; but for a commit, of this session, by its answer.
abbrev pub StepLeaves : {D : Type 0} → (D → Files) → (D → ℕ) → (D → ℕ → Files → Type 0) → Step → Answer → Session → Type 0 → List ℕ → List ℕ → D → D → Type 0
StepLeaves reads moment since step answer session told before after old new =
    LeavesOnly moment since old new (StandsAsRead (reads old))
    ⊎ ((step ≡ Commit) × MayHaveWritten answer × Commitment moment since session (main_of (reads old)) told before after old new)
