-- The rows of a machine, from what the calls of a step answered.
use Rattle.std.proofs.Common.{◌≡◌, ◌≢◌, ◌∙◌, ℕ, true, false, List, None, Result, Err, inl, inr, refl, ap}
use Rattle.std.specs.Prelude.{slice_set}
use Rattle.edge_model.specs.Files.{Files, main_of}
use Rattle.edge_model.specs.Images.{LeavesOnly}
use Rattle.cipher_profile.specs.Profile.{is_plain}
use Rattle.cipher_profile.specs.declared.profile.Profile.{Profile}
use Rattle.pager.specs.Opening.{Opened, IsRefusedBy}
use Rattle.pager.specs.declared.opening.OpenError.{OpenError}
use Rattle.pager.specs.declared.opening.OpenError.TheVariants.{Empty as IsEmpty, Short as IsShort, KeyRefused as NoKey, HeaderFault as AtFault, WalMode as IsWal, AutoVacuum as IsVacuum, Ragged as IsRagged, TooLarge as IsLarge, DiskFault as DiskFails, OutOfMemory as MemoryEnds}
use Rattle.session_hall.specs.Commit.{CommitLeaves, Commitment, CommitsTo}
use Rattle.session_hall.specs.Draws.{CommitDraws, HasDrawn}
use Rattle.session_hall.specs.Kept.{StandsAsRead}
use Rattle.session_hall.specs.Machine.{ChangesByte, Commits, Reads, Shares, HallState, may_change, may_commit, may_read, unopened_answer, opened_by, seen_page, state, unseen_answer, with_session}
use Rattle.session_hall.specs.declared.reading.Unseen.{Unseen}
use Rattle.session_hall.specs.declared.reading.Unseen.TheVariants.{TagRefused as Unaccepted, DiskFault as Unread, OutOfMemory as Unkept}
use Rattle.session_hall.specs.Session.{HasNoOther, Session, session_at}
use Rattle.session_hall.specs.declared.lock.Lock.TheVariants.{Unlocked, Shared, Pending}
use Rattle.session_hall.specs.declared.step.Answer.{Answer}
use Rattle.session_hall.specs.declared.step.Answer.TheVariants.{Done, Page, Busy, Refused, TagRefused, Misuse, Down, DiskFault, EntropyFault, OutOfMemory}
use Rattle.session_hall.proofs.Places.{put_back, put_twice}

-- one of the disk's faults, or want of memory, is none of a file
refused_by : (r : Result Opened OpenError) (error : OpenError) → error ≢ DiskFails → error ≢ MemoryEnds → IsRefusedBy r error → r ≡ Err error
refused_by r error up fed (inl is) = absurd (up is)
refused_by r error up fed (inr (inl is)) = absurd (fed is.0)
refused_by r error up fed (inr (inr is)) = is

-- the state is as it was, though a session was lent and came back
pub same_state : (now new : Files) (layout : Profile) (xs : List Session) (page : List ℕ) (i : ℕ) (x : Session) → new ≡ now → x ≡ session_at xs i
    → state new layout (slice_set xs i x) page ≡ state now layout xs page
same_state now new layout xs page i x files is =
    ap (λ (f : Files). state f layout (slice_set xs i x) page) files ∙ ap (λ (ys : List Session). state now layout ys page) (put_back xs i x is)

-- and though it was then put in its place anew
pub one_state : (now new : Files) (layout : Profile) (xs : List Session) (page : List ℕ) (i : ℕ) (x y z : Session) → new ≡ now → y ≡ z
    → state new layout (slice_set (slice_set xs i x) i y) page ≡ with_session (state now layout xs page) i z
one_state now new layout xs page i x y z files is =
    ap (λ (f : Files). state f layout (slice_set (slice_set xs i x) i y) page) files
    ∙ (ap (λ (ys : List Session). state now layout ys page) (put_twice xs i x y)
    ∙ ap (λ (w : Session). state now layout (slice_set xs i w) page) is)

-- the file does not open for the session
pub share_refused : (old new : HallState) (i : ℕ) (error : OpenError) → (session_at old.sessions i).lock ≡ Unlocked → HasNoOther Pending i old.sessions
    → IsRefusedBy (opened_by (session_at old.sessions i).access old.file) error → new ≡ old → Shares old i (unopened_answer error) new
share_refused old new i IsEmpty lock none is same = (lock, none, refused_by _ IsEmpty (λ e. cc) (λ e. cc) is, same)
share_refused old new i (IsShort len) lock none is same = (lock, none, refused_by _ (IsShort len) (λ e. cc) (λ e. cc) is, same)
share_refused old new i NoKey lock none is same = (lock, none, refused_by _ NoKey (λ e. cc) (λ e. cc) is, same)
share_refused old new i (AtFault at found) lock none is same = (lock, none, refused_by _ (AtFault at found) (λ e. cc) (λ e. cc) is, same)
share_refused old new i IsWal lock none is same = (lock, none, refused_by _ IsWal (λ e. cc) (λ e. cc) is, same)
share_refused old new i IsVacuum lock none is same = (lock, none, refused_by _ IsVacuum (λ e. cc) (λ e. cc) is, same)
share_refused old new i (IsRagged len) lock none is same = (lock, none, refused_by _ (IsRagged len) (λ e. cc) (λ e. cc) is, same)
share_refused old new i (IsLarge pages) lock none is same = (lock, none, refused_by _ (IsLarge pages) (λ e. cc) (λ e. cc) is, same)
share_refused old new i DiskFails lock none is same = (lock, none, same)
share_refused old new i MemoryEnds lock none is same = (lock, none, same)

-- the session does not see the page that it reads
pub read_unseen : (old new : HallState) (i n : ℕ) (unseen : Unseen) → may_read old i n ≡ true
    → (unseen ≡ Unaccepted → seen_page (session_at old.sessions i) old.file n ≡ None) → new ≡ old → Reads old i n (unseen_answer unseen n) new
read_unseen old new i n Unaccepted may none same = (may, refl, none refl, same)
read_unseen old new i n Unread may none same = (may, same)
read_unseen old new i n Unkept may none same = (may, same)

-- nor the page that it changes
pub change_unseen : (old new : HallState) (i n at byte : ℕ) (unseen : Unseen) → may_change old i n at ≡ true
    → (unseen ≡ Unaccepted → seen_page (session_at old.sessions i) old.file n ≡ None) → new ≡ old → ChangesByte old i n at byte (unseen_answer unseen n) new
change_unseen old new i n at byte Unaccepted may none same = (may, refl, none refl, same)
change_unseen old new i n at byte Unread may none same = (may, same)
change_unseen old new i n at byte Unkept may none same = (may, same)

-- ---- a commit

pub commit_answered : (old : HallState) (i : ℕ) (answer : Answer) (after : List ℕ) (now : Session) → may_commit old i ≡ true → HasNoOther Shared i old.sessions
    → CommitsTo (session_at old.sessions i) old.file answer after now
    → Commits old i answer (record { file = after; layout = old.layout; sessions = slice_set old.sessions i now; page = old.page })
commit_answered old i Done after now may none to =
    (may, none, to.0, ap (λ (x : Session). record { file = after; layout = old.layout; sessions = slice_set old.sessions i x; page = old.page }) to.1)
commit_answered old i DiskFault after now may none to =
    (may, none, ap (λ (xs : List Session). record { file = after; layout = old.layout; sessions = xs; page = old.page }) (put_back old.sessions i now to))
commit_answered old i EntropyFault after now may none to =
    (may, none, ap (λ (xs : List Session). record { file = after; layout = old.layout; sessions = xs; page = old.page }) (put_back old.sessions i now to))
commit_answered old i OutOfMemory after now may none to = (
  may,
  none,
  ap (λ (f : List ℕ). record { file = f; layout = old.layout; sessions = slice_set old.sessions i now; page = old.page }) to.0
      ∙ ap (λ (xs : List Session). record { file = old.file; layout = old.layout; sessions = xs; page = old.page }) (put_back old.sessions i now to.1),
)
commit_answered old i Page after now may none to = absurd to
commit_answered old i Busy after now may none to = absurd to
commit_answered old i (Refused error) after now may none to = absurd to
commit_answered old i (TagRefused page) after now may none to = absurd to
commit_answered old i Misuse after now may none to = absurd to
commit_answered old i Down after now may none to = absurd to

-- what a commit drew, from what it came to
pub commit_draws : (layout : Profile) (answer : Answer) (session now : Session) (file new before after : List ℕ) → CommitsTo session file answer new now
    → (answer ≡ Done → is_plain layout ≡ false → HasDrawn session new before after) → (is_plain layout ≡ true → after ≡ before) → (answer ≡ OutOfMemory → after ≡ before)
    → CommitDraws layout answer session new before after
commit_draws layout Done session now file new before after is drawn plain memory = (plain, drawn refl)
commit_draws layout Page session now file new before after is drawn plain memory = absurd is
commit_draws layout Busy session now file new before after is drawn plain memory = absurd is
commit_draws layout (Refused error) session now file new before after is drawn plain memory = absurd is
commit_draws layout (TagRefused page) session now file new before after is drawn plain memory = absurd is
commit_draws layout Misuse session now file new before after is drawn plain memory = absurd is
commit_draws layout Down session now file new before after is drawn plain memory = absurd is
commit_draws layout DiskFault session now file new before after is drawn plain memory = tt
commit_draws layout EntropyFault session now file new before after is drawn plain memory = tt
commit_draws layout OutOfMemory session now file new before after is drawn plain memory = memory refl

-- what a commit leaves at each moment, by its answer
module _ {D : Type 0} (reads : D → Files) (moment : D → ℕ) (since : D → ℕ → Files → Type 0) (session : Session) (told : Type 0) (before after : List ℕ) (old new : D) where
  pub commit_leaves : (answer : Answer) (now : Session) → CommitsTo session (main_of (reads old)) answer (main_of (reads new)) now
      → (answer ≡ OutOfMemory → LeavesOnly moment since old new (StandsAsRead (reads old))) → Commitment moment since session (main_of (reads old)) told before after old new
      → CommitLeaves reads moment since answer session told before after old new
  commit_leaves Done now to stands run = inr (tt, run)
  commit_leaves DiskFault now to stands run = inr (tt, run)
  commit_leaves EntropyFault now to stands run = inr (tt, run)
  commit_leaves OutOfMemory now to stands run = inl (stands refl)
  commit_leaves Page now to stands run = absurd to
  commit_leaves Busy now to stands run = absurd to
  commit_leaves (Refused error) now to stands run = absurd to
  commit_leaves (TagRefused page) now to stands run = absurd to
  commit_leaves Misuse now to stands run = absurd to
  commit_leaves Down now to stands run = absurd to
