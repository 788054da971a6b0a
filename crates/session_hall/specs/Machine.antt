-- The lock machine of a hall: SQLite's lock states ("File Locking And Concurrency In SQLite Version 3", section 3), over whole pages.
--
-- | step    | the session is             | answer                                                 | and is then                        |
-- | open    | closed or unlocked         | Done                                                   | unlocked, with this key            |
-- | share   | unlocked                   | Busy while another is pending; Refused; Done           | shared                             |
-- | read    | shared, reserved, pending  | TagRefused; Page                                       | as it was                          |
-- | reserve | shared                     | Busy while another is reserved or pending; Done        | reserved                           |
-- | change  | reserved                   | TagRefused; Done                                       | reserved, with this byte           |
-- | rekey   | reserved                   | TagRefused; Done                                       | reserved, with this new key        |
-- | commit  | reserved or pending        | Busy while another is shared; Done                     | pending; unlocked, under the new key |
-- | release | not closed                 | Done                                                   | unlocked, without its changes      |
-- | stop    | any                        | Done                                                   | closed, as is each other           |
--
-- A step whose need is not met is answered Misuse, and changes nothing. Only where its need is met, and no other session is in the way, may the
-- disk or the entropy fail, or memory be wanted. The state is then as it was, but for the file of a commit that failed.
use Rattle.std.specs.Prelude.{◌≡◌, ◌≢◌, ◌⊎◌, ◌==◌, ◌≤◌, ◌-◌, ◌&&◌, ◌||◌, not, ℕ, Bool, true, false, List, [], Option, Some, None, unwrap_or, is_some, IsSome, Result, Ok, Err, nat_le, nat_lt, if◌then◌else◌, slice_set, ⊤}
use Rattle.std.specs.Bool.{beq}
use Rattle.std.specs.BTreeMap.{insert_entry}
use Rattle.std.specs.Ordering.{nat_cmp}
use Rattle.edge_model.specs.Files.{Files, main_of}
use Rattle.cipher_profile.specs.Profile.{IsListed, is_clear, usable}
use Rattle.cipher_profile.specs.declared.profile.Profile.{Profile}
use Rattle.page_codec.specs.Page.{FileKeys, accepts, opened, salt_of}
use Rattle.pager.specs.Database.{count_of}
use Rattle.pager.specs.File.{page_stored}
use Rattle.pager.specs.Opening.{Opened, file_opened}
use Rattle.pager.specs.Pages.{is_page_number}
use Rattle.pager.specs.declared.opening.OpenError.{OpenError}
use Rattle.pager.specs.declared.opening.OpenError.TheVariants.{Empty, Short, KeyRefused, HeaderFault, WalMode, AutoVacuum, Ragged, TooLarge, DiskFault as DiskFails, OutOfMemory as MemoryEnds}
use Rattle.session_hall.specs.Key.{Access, codec_of, is_key_for}
use Rattle.session_hall.specs.Locks.{is_holding, is_idle, is_reserved, is_writing}
use Rattle.session_hall.specs.Session.{AreClosed, HasNoOther, HasOther, Session, change_of, session_at}
use Rattle.session_hall.specs.declared.lock.Lock.TheVariants.{Closed, Unlocked, Shared, Reserved, Pending}
use Rattle.session_hall.specs.declared.reading.Unseen.{Unseen}
use Rattle.session_hall.specs.declared.reading.Unseen.TheVariants.{TagRefused as Unaccepted, DiskFault as Unread, OutOfMemory as Unkept}
use Rattle.session_hall.specs.declared.step.Step.{Step}
use Rattle.session_hall.specs.declared.step.Step.TheVariants.{Open, Share, Read, Reserve, Change, Rekey, Commit, Release, Stop}
use Rattle.session_hall.specs.declared.step.Answer.{Answer}
use Rattle.session_hall.specs.declared.step.Answer.TheVariants.{Done, Page, Busy, Refused, TagRefused, Misuse, DiskFault, EntropyFault, OutOfMemory}

-- Main, the layout of pages that the hall was opened with, its sessions, and the page that was read last.
pub record HallState : Type 0 where
  pub file : List ℕ
  pub layout : Profile
  pub sessions : List Session
  pub page : List ℕ

abbrev pub state : Files → Profile → List Session → List ℕ → HallState
state files layout sessions page = record { file = main_of files; layout = layout; sessions = sessions; page = page }

-- session i is now this one
abbrev pub with_session : HallState → ℕ → Session → HallState
with_session s i session = record s { sessions = slice_set s.sessions i session }

-- a profile with pages of the hall's layout, the first of which begins alike, with a salt or as it is stored, and with its setting
abbrev pub is_laid : Profile → Profile → Bool
is_laid layout profile =
    (profile.page_size == layout.page_size) && (profile.reserve == layout.reserve) && beq profile.reads_log layout.reads_log
    && beq (is_clear profile) (is_clear layout)

-- a session may be under this: a profile of the hall's layout, with a secret for its files
abbrev pub may_be_under : Profile → Access → Bool
may_be_under layout access = is_laid layout access.profile && is_key_for access.profile access.secret

-- ---- open

abbrev pub may_open : HallState → ℕ → Access → Bool
may_open s i access = is_idle (session_at s.sessions i).lock && may_be_under s.layout access

-- a session that was opened with this, and holds nothing
abbrev pub unlocked : Access → Session
unlocked access = record { lock = Unlocked; access = access; pages = 0; changes = []; new_access = None }

abbrev pub Opens : HallState → ℕ → Access → Answer → HallState → Type 0
Opens old i access Done new = (may_open old i access ≡ true) × (new ≡ with_session old i (unlocked access))
Opens old i access Misuse new = (may_open old i access ≡ false) × (new ≡ old)
Opens old i access answer new = ⊥

-- ---- share

-- what opening a file with this comes to
abbrev pub opened_by : Access → List ℕ → Result Opened OpenError
opened_by access file = file_opened (codec_of access file) file

-- the answer where it does not open; the last two are never due to a file
abbrev pub unopened_answer : OpenError → Answer
unopened_answer Empty = Refused Empty
unopened_answer (Short len) = Refused (Short len)
unopened_answer KeyRefused = Refused KeyRefused
unopened_answer (HeaderFault at found) = Refused (HeaderFault at found)
unopened_answer WalMode = Refused WalMode
unopened_answer AutoVacuum = Refused AutoVacuum
unopened_answer (Ragged len) = Refused (Ragged len)
unopened_answer (TooLarge pages) = Refused (TooLarge pages)
unopened_answer DiskFails = DiskFault
unopened_answer MemoryEnds = OutOfMemory

-- how many pages it has that way, none where it does not open
abbrev pub counted_pages : Result Opened OpenError → Option ℕ
counted_pages (Ok opened) = Some opened.count
counted_pages (Err error) = None

abbrev pub sharing : Session → ℕ → Session
sharing session pages = record session { lock = Shared; pages = pages }

abbrev pub Shares : HallState → ℕ → Answer → HallState → Type 0
Shares old i Done new =
    let session = session_at old.sessions i in
    (session.lock ≡ Unlocked) × HasNoOther Pending i old.sessions
    × ((pages : ℕ) × (counted_pages (opened_by session.access old.file) ≡ Some pages) × (new ≡ with_session old i (sharing session pages)))
Shares old i Busy new = ((session_at old.sessions i).lock ≡ Unlocked) × HasOther Pending i old.sessions × (new ≡ old)
Shares old i (Refused error) new =
    let session = session_at old.sessions i in
    (session.lock ≡ Unlocked) × HasNoOther Pending i old.sessions × (opened_by session.access old.file ≡ Err error) × (new ≡ old)
Shares old i Misuse new = ((session_at old.sessions i).lock ≢ Unlocked) × (new ≡ old)
Shares old i DiskFault new = ((session_at old.sessions i).lock ≡ Unlocked) × HasNoOther Pending i old.sessions × (new ≡ old)
Shares old i OutOfMemory new = ((session_at old.sessions i).lock ≡ Unlocked) × HasNoOther Pending i old.sessions × (new ≡ old)
Shares old i answer new = ⊥

-- ---- read

-- page n as it is committed, where the codec accepts it
abbrev pub committed_page : FileKeys → List ℕ → ℕ → Option (List ℕ)
committed_page keys file n = if accepts keys n (page_stored keys file n) then Some (opened keys n (page_stored keys file n)) else None

abbrev pub else_page : Option (List ℕ) → Option (List ℕ) → Option (List ℕ)
else_page (Some page) other = Some page
else_page None other = other

-- page n as the session sees it: as it changed it, else as it is committed
abbrev pub seen_page : Session → List ℕ → ℕ → Option (List ℕ)
seen_page session file n = else_page (change_of n session.changes) (committed_page (codec_of session.access file) file n)

-- the answer where page n is not seen
abbrev pub unseen_answer : Unseen → ℕ → Answer
unseen_answer Unaccepted n = TagRefused n
unseen_answer Unread n = DiskFault
unseen_answer Unkept n = OutOfMemory

abbrev pub may_read : HallState → ℕ → ℕ → Bool
may_read s i n = let session = session_at s.sessions i in is_holding session.lock && is_page_number session.pages n

abbrev pub Reads : HallState → ℕ → ℕ → Answer → HallState → Type 0
Reads old i n Page new =
    (may_read old i n ≡ true) × (seen_page (session_at old.sessions i) old.file n ≡ Some new.page) × (new ≡ record old { page = new.page })
Reads old i n (TagRefused page) new =
    (may_read old i n ≡ true) × (page ≡ n) × (seen_page (session_at old.sessions i) old.file n ≡ None) × (new ≡ old)
Reads old i n Misuse new = (may_read old i n ≡ false) × (new ≡ old)
Reads old i n DiskFault new = (may_read old i n ≡ true) × (new ≡ old)
Reads old i n OutOfMemory new = (may_read old i n ≡ true) × (new ≡ old)
Reads old i n answer new = ⊥

-- ---- reserve

abbrev pub Reserves : HallState → ℕ → Answer → HallState → Type 0
Reserves old i Done new =
    let session = session_at old.sessions i in
    (session.lock ≡ Shared) × HasNoOther Reserved i old.sessions × HasNoOther Pending i old.sessions
    × (new ≡ with_session old i (record session { lock = Reserved }))
Reserves old i Busy new =
    ((session_at old.sessions i).lock ≡ Shared) × (HasOther Reserved i old.sessions ⊎ HasOther Pending i old.sessions) × (new ≡ old)
Reserves old i Misuse new = ((session_at old.sessions i).lock ≢ Shared) × (new ≡ old)
Reserves old i answer new = ⊥

-- ---- change

-- the byte stands in a plain page, and not in the header of page 1
abbrev pub is_content : Profile → ℕ → ℕ → Bool
is_content profile n at = nat_lt at (usable profile) && (nat_le 100 at || not (n == 1))

abbrev pub may_change : HallState → ℕ → ℕ → ℕ → Bool
may_change s i n at =
    let session = session_at s.sessions i in is_reserved session.lock && is_page_number session.pages n && is_content session.access.profile n at

-- the session with page n as this one
abbrev pub changing : Session → ℕ → List ℕ → Session
changing session n page = record session { changes = insert_entry nat_cmp session.changes n page }

abbrev pub ChangesByte : HallState → ℕ → ℕ → ℕ → ℕ → Answer → HallState → Type 0
ChangesByte old i n at byte Done new =
    let session = session_at old.sessions i in
    (may_change old i n at ≡ true)
    × ((page : List ℕ) × (seen_page session old.file n ≡ Some page) × (new ≡ with_session old i (changing session n (slice_set page at byte))))
ChangesByte old i n at byte (TagRefused page) new =
    (may_change old i n at ≡ true) × (page ≡ n) × (seen_page (session_at old.sessions i) old.file n ≡ None) × (new ≡ old)
ChangesByte old i n at byte Misuse new = (may_change old i n at ≡ false) × (new ≡ old)
ChangesByte old i n at byte DiskFault new = (may_change old i n at ≡ true) × (new ≡ old)
ChangesByte old i n at byte OutOfMemory new = (may_change old i n at ≡ true) × (new ≡ old)
ChangesByte old i n at byte answer new = ⊥

-- ---- rekey

abbrev pub may_rekey : HallState → ℕ → Access → Bool
may_rekey s i access = is_reserved (session_at s.sessions i).lock && may_be_under s.layout access

-- the session sees each page up to a number
abbrev pub SeesUpTo : Session → List ℕ → ℕ → Type 0
SeesUpTo session file n = (m : ℕ) → 1 ≤ m → m ≤ n → IsSome (seen_page session file m)

-- page n is the first that it does not see
pub record IsFirstUnseen (session : Session) (file : List ℕ) (n : ℕ) : Type 0 where
  pub number : is_page_number session.pages n ≡ true
  pub earlier : SeesUpTo session file (n - 1)
  pub unseen : seen_page session file n ≡ None

abbrev pub Rekeys : HallState → ℕ → Access → Answer → HallState → Type 0
Rekeys old i access Done new =
    let session = session_at old.sessions i in
    (may_rekey old i access ≡ true) × SeesUpTo session old.file session.pages
    × (new ≡ with_session old i (record session { new_access = Some access }))
Rekeys old i access (TagRefused page) new =
    let session = session_at old.sessions i in
    (may_rekey old i access ≡ true) × IsFirstUnseen session old.file page × (new ≡ old)
Rekeys old i access Misuse new = (may_rekey old i access ≡ false) × (new ≡ old)
Rekeys old i access DiskFault new = (may_rekey old i access ≡ true) × (new ≡ old)
Rekeys old i access answer new = ⊥

-- ---- commit

-- what its pages are sealed under: the key that it rekeys to, or its own
abbrev pub write_access : Session → Access
write_access session = unwrap_or session.new_access session.access

-- a commit seals this page anew: each, where it rekeys, else those that it changed
abbrev pub is_sealed : Session → ℕ → Bool
is_sealed session n = is_some session.new_access || is_some (change_of n session.changes)

-- The file `after` is the file `before`, of the session's count of pages, with its changes. A page that is sealed anew is accepted by the
-- new codec, and opens to what the session saw; every other page is stored as it was.
pub record HasSessionChanges (session : Session) (before after : List ℕ) : Type 0 where
  pub salt : salt_of after ≡ salt_of before
  pub counted : count_of (codec_of (write_access session) after) after ≡ Some session.pages
  pub seen : (n : ℕ) → is_page_number session.pages n ≡ true → is_sealed session n ≡ true
      → committed_page (codec_of (write_access session) after) after n ≡ seen_page session before n
  pub others : (n : ℕ) → is_page_number session.pages n ≡ true → is_sealed session n ≡ false
      → page_stored (codec_of session.access before) after n ≡ page_stored (codec_of session.access before) before n

-- the session after its commit: under the new key, and without its changes
abbrev pub committed : Session → Session
committed session = record session { lock = Unlocked; access = write_access session; changes = []; new_access = None }

abbrev pub may_commit : HallState → ℕ → Bool
may_commit s i = is_writing (session_at s.sessions i).lock

abbrev pub Commits : HallState → ℕ → Answer → HallState → Type 0
Commits old i Done new =
    let session = session_at old.sessions i in
    (may_commit old i ≡ true) × HasNoOther Shared i old.sessions × HasSessionChanges session old.file new.file
    × (new ≡ record (with_session old i (committed session)) { file = new.file })
Commits old i Busy new =
    let session = session_at old.sessions i in
    (may_commit old i ≡ true) × HasOther Shared i old.sessions × (new ≡ with_session old i (record session { lock = Pending }))
Commits old i Misuse new = (may_commit old i ≡ false) × (new ≡ old)
-- the file is then as before, or after a fault of the disk as before or after the commit; the disk's images say so
Commits old i DiskFault new = (may_commit old i ≡ true) × HasNoOther Shared i old.sessions × (new ≡ record old { file = new.file })
Commits old i EntropyFault new = (may_commit old i ≡ true) × HasNoOther Shared i old.sessions × (new ≡ record old { file = new.file })
Commits old i OutOfMemory new = (may_commit old i ≡ true) × HasNoOther Shared i old.sessions × (new ≡ old)
Commits old i answer new = ⊥

-- ---- release and stop

-- what it changed is dropped
abbrev pub released : Session → Session
released session = record session { lock = Unlocked; changes = []; new_access = None }

abbrev pub Releases : HallState → ℕ → Answer → HallState → Type 0
Releases old i Done new =
    ((session_at old.sessions i).lock ≢ Closed) × (new ≡ with_session old i (released (session_at old.sessions i)))
Releases old i Misuse new = ((session_at old.sessions i).lock ≡ Closed) × (new ≡ old)
Releases old i answer new = ⊥

abbrev pub Stops : HallState → Answer → HallState → Type 0
Stops old Done new = AreClosed old.sessions new.sessions × (new ≡ record old { sessions = new.sessions })
Stops old answer new = ⊥

-- ---- a step

-- from one state a step of session i may give this answer, and go on to the other state
abbrev pub Steps : HallState → ℕ → Step → Answer → HallState → Type 0
Steps old i (Open secret profile) answer new = Opens old i (record { profile = profile; secret = secret }) answer new
Steps old i Share answer new = Shares old i answer new
Steps old i (Read page) answer new = Reads old i page answer new
Steps old i Reserve answer new = Reserves old i answer new
Steps old i (Change page at byte) answer new = ChangesByte old i page at byte answer new
Steps old i (Rekey secret profile) answer new = Rekeys old i (record { profile = profile; secret = secret }) answer new
Steps old i Commit answer new = Commits old i answer new
Steps old i Release answer new = Releases old i answer new
Steps old i Stop answer new = Stops old answer new

-- a step that names a profile names one of the table
abbrev pub IsListedStep : Step → Type 0
IsListedStep (Open secret profile) = IsListed profile
IsListedStep Share = ⊤
IsListedStep (Read page) = ⊤
IsListedStep Reserve = ⊤
IsListedStep (Change page at byte) = ⊤
IsListedStep (Rekey secret profile) = IsListed profile
IsListedStep Commit = ⊤
IsListedStep Release = ⊤
IsListedStep Stop = ⊤
