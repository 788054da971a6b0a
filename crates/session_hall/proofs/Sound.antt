-- What a hall keeps through each row of its machine.
use Rattle.std.proofs.Common.{[], ◌≡◌, ◌≢◌, ◌⊎◌, ◌<◌, ◌≤◌, ◌*◌, ◌&&◌, ◌||◌, ◌∙◌, ℕ, Bool, true, false, List, length, take, Option, Some, None, is_some, inl, inr, ⊎_elim, refl, sym, ap, subst, arith, rules, if◌then◌else◌}
use Rattle.std.specs.Prelude.{IsSome, nat_le, nat_lt, slice_set}
use Rattle.std.specs.BTreeMap.{insert_entry}
use Rattle.std.specs.Ordering.{nat_cmp}
use Rattle.std.proofs.lemmas.List.{take-set-le}
use Rattle.std.proofs.lemmas.Bool.{cases_eq}
use Rattle.edge_model.specs.Files.{Files}
use Rattle.edge_model.specs.OnlyRead.{OnlyRead}
use Rattle.cipher_profile.specs.Profile.{usable}
use Rattle.cipher_profile.specs.declared.profile.Profile.{Profile}
use Rattle.page_codec.specs.Page.{accepts, opened}
use Rattle.pager.specs.File.{page_stored}
use Rattle.pager.specs.Pages.{is_page_number}
use Rattle.pager.proofs.BatchLemmas.{and_true, number_in}
use Rattle.session_hall.specs.Key.{Access, codec_of}
use Rattle.edge_model.specs.Images.{LeavesOnly}
use Rattle.edge_model.specs.Moments.{goes_less, started}
use Rattle.session_hall.specs.Faults.{is_fault_answer}
use Rattle.session_hall.specs.Kept.{AreSessionsSound, IsHallSettled, IsSessionSound, StandsAsRead}
use Rattle.session_hall.specs.Locks.{is_holding, is_reserved, is_writing}
use Rattle.session_hall.specs.Commit.{IsUp}
use Rattle.session_hall.specs.Machine.{ChangesByte, Commits, Opens, Reads, Rekeys, Releases, Reserves, Shares, SeesUpTo, HallState, Steps, Stops, changing, committed, else_page, is_content, is_sealed, may_be_under, may_change, opened_by, counted_pages, released, seen_page, sharing, unlocked}
use Rattle.session_hall.specs.declared.step.Step.{Step}
use Rattle.session_hall.specs.declared.step.Step.TheVariants.{Open, Share, Read, Reserve, Change, Rekey, Commit, Release, Stop}
use Rattle.session_hall.specs.Session.{Session, change_of, closed, session_at}
use Rattle.session_hall.specs.declared.lock.Lock.{Lock}
use Rattle.session_hall.specs.declared.lock.Lock.TheVariants.{Closed, Unlocked, Shared, Reserved, Pending}
use Rattle.session_hall.specs.declared.step.Answer.{Answer}
use Rattle.session_hall.specs.declared.step.Answer.TheVariants.{Done, Page, Busy, Refused, TagRefused, Misuse, Down, DiskFault, EntropyFault, OutOfMemory}
use Rattle.session_hall.proofs.Counting.{page_there}
use Rattle.session_hall.proofs.Lookups.{insert_here, insert_other}
use Rattle.session_hall.proofs.Places.{as_many, beside, put_at}

never : false ≡ true → ⊥
never is = cc

pub writing_holds : (lock : Lock) → is_writing lock ≡ true → is_holding lock ≡ true
writing_holds Closed is = cc
writing_holds Unlocked is = cc
writing_holds Shared is = cc
writing_holds Reserved is = refl
writing_holds Pending is = refl

abbrev pub Writes : Session → Type 0
Writes session = is_writing session.lock ≡ true

-- a session in the place of another
module _ (file : List ℕ) (xs : List Session) (i : ℕ) (x : Session) (small : i < length xs) (sound : AreSessionsSound file xs)
    (is_sound : IsSessionSound file x) (alone : Writes x → (k : ℕ) → k < length xs → k ≢ i → Writes (session_at xs k) → ⊥) where
  inside : (k : ℕ) → k < length (slice_set xs i x) → k < length xs
  inside k less = omega (arith, less, as_many xs i x)

  now : (k : ℕ) → k ≡ i → session_at (slice_set xs i x) k ≡ x
  now k same = ap (λ (j : ℕ). session_at (slice_set xs i x) j) same ∙ put_at xs i x small

  pub put_sound : AreSessionsSound file (slice_set xs i x)
  put_sound = record {
    each = λ k less. ⊎_elim (λ same. subst (IsSessionSound file) (sym (now k same)) is_sound)
        (λ other. subst (IsSessionSound file) (sym (beside xs i k x other)) (sound.each k (inside k less))) (cases_eq k i);
    one = λ j k one two first next. ⊎_elim
        (λ same. ⊎_elim (λ too. same ∙ sym too)
        (λ other. absurd (alone (subst Writes (now j same) first) k (inside k two) other (subst Writes (beside xs i k x other) next))) (cases_eq k i))
        (λ other. ⊎_elim
        (λ same. absurd (alone (subst Writes (now k same) next) j (inside j one) other (subst Writes (beside xs i j x other) first)))
        (λ apart. sound.one j k (inside j one) (inside k two) (subst Writes (beside xs i j x other) first) (subst Writes (beside xs i k x apart) next))
        (cases_eq k i)) (cases_eq j i);
  }

-- it has the same lock but for what it may write, and the same file
pub reserved_holds : (lock : Lock) → is_reserved lock ≡ true → is_holding lock ≡ true
reserved_holds Closed is = cc
reserved_holds Unlocked is = cc
reserved_holds Shared is = cc
reserved_holds Reserved is = refl
reserved_holds Pending is = cc

reserved_writes : (lock : Lock) → is_reserved lock ≡ true → is_writing lock ≡ true
reserved_writes Closed is = cc
reserved_writes Unlocked is = cc
reserved_writes Shared is = cc
reserved_writes Reserved is = refl
reserved_writes Pending is = cc

neither_writes : (lock : Lock) → lock ≢ Reserved → lock ≢ Pending → is_writing lock ≡ true → ⊥
neither_writes Closed one two is = cc
neither_writes Unlocked one two is = cc
neither_writes Shared one two is = cc
neither_writes Reserved one two is = one refl
neither_writes Pending one two is = two refl

-- a page that a session may read is in the file
pub page_in : (file : List ℕ) (xs : List Session) (i n : ℕ) → i < length xs → AreSessionsSound file xs
    → (is_holding (session_at xs i).lock && is_page_number (session_at xs i).pages n) ≡ true
    → n * (session_at xs i).access.profile.page_size ≤ length file
page_in file xs i n small sound may =
    let session = session_at xs i in
    let two = and_true (is_holding session.lock) (is_page_number session.pages n) may in
    page_there (codec_of session.access file) file session.pages n ((sound.each i small).opens two.0) (number_in session.pages n two.1).1

-- and so is one that it may change
pub page_in_reserved : (file : List ℕ) (xs : List Session) (i n : ℕ) (content : Bool) → i < length xs → AreSessionsSound file xs
    → (is_reserved (session_at xs i).lock && is_page_number (session_at xs i).pages n && content) ≡ true
    → n * (session_at xs i).access.profile.page_size ≤ length file
page_in_reserved file xs i n content small sound may =
    let session = session_at xs i in
    let two = and_true (is_reserved session.lock && is_page_number session.pages n) content may in
    let more = and_true (is_reserved session.lock) (is_page_number session.pages n) two.0 in
    page_there (codec_of session.access file) file session.pages n ((sound.each i small).opens (reserved_holds session.lock more.0)) (number_in session.pages n more.1).1

-- the sessions of a state are sound
abbrev pub IsSound : HallState → Type 0
IsSound s = AreSessionsSound s.file s.sessions

-- ---- sessions

-- one that has changed nothing
pub clean_session : (file : List ℕ) (x : Session) → (is_holding x.lock ≡ true → counted_pages (opened_by x.access file) ≡ Some x.pages)
    → x.changes ≡ [] → x.new_access ≡ None → IsSessionSound file x
clean_session file x opens none no_key = record {
  opens = opens;
  unchanged = λ quiet. (none, no_key);
  header = λ page is. absurd (nothing page (sym (ap (λ (cs : List (ℕ × List ℕ)). change_of 1 cs) none) ∙ is));
  accepted = λ n num is. absurd (never (sym (unsealed n) ∙ is));
}
  where
    nothing : (page : List ℕ) → ◌≡◌ {A = Option (List ℕ)} None (Some page) → ⊥
    nothing page is = cc

    unsealed : (n : ℕ) → is_sealed x n ≡ false
    unsealed n = ap (λ (o : Option Access). is_some o || is_some (change_of n x.changes)) no_key ∙ ap (λ (cs : List (ℕ × List ℕ)). is_some (change_of n cs)) none

-- one that holds nothing is sound beside any file
pub moved_session : (file other : List ℕ) (x : Session) → is_holding x.lock ≡ false → is_writing x.lock ≡ false → IsSessionSound file x → IsSessionSound other x
moved_session file other x still quiet sound =
    clean_session other x (λ holds. absurd (never (sym still ∙ holds))) (sound.unchanged quiet).0 (sound.unchanged quiet).1

-- one with another lock, of those that may write
pub writing_session : (file : List ℕ) (x : Session) (lock : Lock) → is_writing x.lock ≡ true → is_writing lock ≡ true → IsSessionSound file x → IsSessionSound file (record x { lock = lock })
writing_session file x lock was writes sound = record {
  opens = λ holds. sound.opens (writing_holds x.lock was);
  unchanged = λ quiet. absurd (never (sym quiet ∙ writes));
  header = sound.header;
  accepted = sound.accepted;
}

-- ---- a page that a session sees

some_same : (a b : List ℕ) → Some a ≡ Some b → a ≡ b
some_same a b is = cc

-- it was changed, or is accepted as it is committed
seen_accepted : (c : Option (List ℕ)) (b : Bool) (o : List ℕ) → (is_some c ≡ true → b ≡ true) → IsSome (else_page c (if b then Some o else None)) → b ≡ true
seen_accepted (Some q) b o known seen = known refl
seen_accepted None true o known seen = refl
seen_accepted None false o known seen = cc

-- and is as it was changed, or as it opens
seen_as : (c : Option (List ℕ)) (b : Bool) (o page : List ℕ) → else_page c (if b then Some o else None) ≡ Some page → (c ≡ Some page) ⊎ (o ≡ page)
seen_as (Some q) b o page is = inl is
seen_as None true o page is = inr (some_same o page is)
seen_as None false o page is = cc

is_seen : (o : Option (List ℕ)) (page : List ℕ) → o ≡ Some page → IsSome o
is_seen o page is = subst (λ (x : Option (List ℕ)). IsSome x) (sym is) refl

or_some : (a b : Bool) → b ≡ true → (a || b) ≡ true
or_some true b is = refl
or_some false b is = is

or_none : (a b : Bool) → a ≡ false → (a || b) ≡ b
or_none true b is = cc
or_none false b is = refl

-- a page that the session sees is accepted as it is committed
pub accepted_seen : (file : List ℕ) (x : Session) (n : ℕ) → IsSessionSound file x → is_page_number x.pages n ≡ true → IsSome (seen_page x file n)
    → accepts (codec_of x.access file) n (page_stored (codec_of x.access file) file n) ≡ true
accepted_seen file x n sound num seen =
    seen_accepted (change_of n x.changes) (accepts (codec_of x.access file) n (page_stored (codec_of x.access file) file n))
    (opened (codec_of x.access file) n (page_stored (codec_of x.access file) file n))
    (λ some. sound.accepted n num (or_some (is_some x.new_access) (is_some (change_of n x.changes)) some)) seen

-- page 1 as the session sees it has the header of the committed one
header_seen : (file : List ℕ) (x : Session) (page : List ℕ) → IsSessionSound file x → seen_page x file 1 ≡ Some page
    → take 100 page ≡ take 100 (opened (codec_of x.access file) 1 (page_stored (codec_of x.access file) file 1))
header_seen file x page sound is =
    ⊎_elim (λ changed. sound.header page changed) (λ same. ap (take 100) (sym same))
    (seen_as (change_of 1 x.changes) (accepts (codec_of x.access file) 1 (page_stored (codec_of x.access file) file 1))
    (opened (codec_of x.access file) 1 (page_stored (codec_of x.access file) file 1)) page is)

-- a byte of content is behind the header
content_behind : (profile : Profile) (at : ℕ) → is_content profile 1 at ≡ true → 100 ≤ at
content_behind profile at is = search (rules, and_true (nat_lt at (usable profile)) (nat_le 100 at || false) is)

-- one more page is changed
pub changed_session : (file : List ℕ) (x : Session) (n at byte : ℕ) (page : List ℕ) → IsSessionSound file x → is_reserved x.lock ≡ true → is_page_number x.pages n ≡ true
    → is_content x.access.profile n at ≡ true → seen_page x file n ≡ Some page → IsSessionSound file (changing x n (slice_set page at byte))
changed_session file x n at byte page sound reserved num content is = record {
  opens = sound.opens;
  unchanged = λ quiet. absurd (never (sym quiet ∙ reserved_writes x.lock reserved));
  header = λ p found. ⊎_elim
      (λ (same : 1 ≡ n).
      let here : change_of 1 (insert_entry nat_cmp x.changes n (slice_set page at byte)) ≡ Some (slice_set page at byte) =
      subst (λ (k : ℕ). change_of k (insert_entry nat_cmp x.changes n (slice_set page at byte)) ≡ Some (slice_set page at byte)) (sym same) (insert_here n (slice_set page at byte) x.changes) in
      ap (take 100) (some_same p (slice_set page at byte) (sym found ∙ here))
      ∙ take-set-le 100 page at byte (content_behind x.access.profile at (subst (λ (k : ℕ). is_content x.access.profile k at ≡ true) (sym same) content))
      ∙ header_seen file x page sound (subst (λ (k : ℕ). seen_page x file k ≡ Some page) (sym same) is))
      (λ other. sound.header p (sym (insert_other n (slice_set page at byte) 1 other x.changes) ∙ found)) (cases_eq 1 n);
  accepted = λ m inside sealed. ⊎_elim
      (λ (same : m ≡ n). subst (λ (k : ℕ). accepts (codec_of x.access file) k (page_stored (codec_of x.access file) file k) ≡ true) (sym same)
      (accepted_seen file x n sound num (is_seen (seen_page x file n) page is)))
      (λ other. sound.accepted m inside (ap (λ (o : Option (List ℕ)). is_some x.new_access || is_some o) (sym (insert_other n (slice_set page at byte) m other x.changes)) ∙ sealed))
      (cases_eq m n);
}

-- each page is to be sealed anew
pub rekeyed_session : (file : List ℕ) (x : Session) (access : Access) → IsSessionSound file x → is_reserved x.lock ≡ true → SeesUpTo x file x.pages
    → IsSessionSound file (record x { new_access = Some access })
rekeyed_session file x access sound reserved sees = record {
  opens = sound.opens;
  unchanged = λ quiet. absurd (never (sym quiet ∙ reserved_writes x.lock reserved));
  header = sound.header;
  accepted = λ n num sealed. let within = number_in x.pages n num in accepted_seen file x n sound num (sees n within.0 within.1);
}

-- ---- the rows

may_change_parts : (s : HallState) (i n at : ℕ) → may_change s i n at ≡ true
    → (is_reserved (session_at s.sessions i).lock ≡ true) × (is_page_number (session_at s.sessions i).pages n ≡ true) × (is_content (session_at s.sessions i).access.profile n at ≡ true)
may_change_parts s i n at may =
    let x = session_at s.sessions i in
    let two = and_true (is_reserved x.lock && is_page_number x.pages n) (is_content x.access.profile n at) may in
    let more = and_true (is_reserved x.lock) (is_page_number x.pages n) two.0 in
    (more.0, more.1, two.1)

pub opens_sound : (old new : HallState) (i : ℕ) (access : Access) (answer : Answer) → i < length old.sessions → IsSound old → Opens old i access answer new → IsSound new
opens_sound old new i access Done small sound is =
    subst IsSound (sym is.1) (put_sound old.file old.sessions i (unlocked access) small sound (clean_session old.file (unlocked access) (λ h. absurd (never h)) refl refl) (λ w. absurd (never w)))
opens_sound old new i access Page small sound is = absurd is
opens_sound old new i access Busy small sound is = absurd is
opens_sound old new i access (Refused error) small sound is = absurd is
opens_sound old new i access (TagRefused page) small sound is = absurd is
opens_sound old new i access Misuse small sound is = subst IsSound (sym is.1) sound
opens_sound old new i access Down small sound is = absurd is
opens_sound old new i access DiskFault small sound is = absurd is
opens_sound old new i access EntropyFault small sound is = absurd is
opens_sound old new i access OutOfMemory small sound is = absurd is

pub shares_sound : (old new : HallState) (i : ℕ) (answer : Answer) → i < length old.sessions → IsSound old → Shares old i answer new → IsSound new
shares_sound old new i Done small sound is =
    let x = session_at old.sessions i in
    let clean = (sound.each i small).unchanged (ap is_writing is.0) in
    subst IsSound (sym is.2.2) (put_sound old.file old.sessions i (sharing x is.2.0) small sound (clean_session old.file (sharing x is.2.0) (λ h. is.2.1) clean.0 clean.1) (λ w. absurd (never w)))
shares_sound old new i Page small sound is = absurd is
shares_sound old new i Busy small sound is = subst IsSound (sym is.2) sound
shares_sound old new i (Refused error) small sound is = subst IsSound (sym is.3) sound
shares_sound old new i (TagRefused page) small sound is = absurd is
shares_sound old new i Misuse small sound is = subst IsSound (sym is.1) sound
shares_sound old new i Down small sound is = absurd is
shares_sound old new i DiskFault small sound is = subst IsSound (sym is.2) sound
shares_sound old new i EntropyFault small sound is = absurd is
shares_sound old new i OutOfMemory small sound is = subst IsSound (sym is.2) sound

pub reads_sound : (old new : HallState) (i : ℕ) (n : ℕ) (answer : Answer) → i < length old.sessions → IsSound old → Reads old i n answer new → IsSound new
reads_sound old new i n Done small sound is = absurd is
reads_sound old new i n Page small sound is = subst IsSound (sym is.2) sound
reads_sound old new i n Busy small sound is = absurd is
reads_sound old new i n (Refused error) small sound is = absurd is
reads_sound old new i n (TagRefused page) small sound is = subst IsSound (sym is.3) sound
reads_sound old new i n Misuse small sound is = subst IsSound (sym is.1) sound
reads_sound old new i n Down small sound is = absurd is
reads_sound old new i n DiskFault small sound is = subst IsSound (sym is.1) sound
reads_sound old new i n EntropyFault small sound is = absurd is
reads_sound old new i n OutOfMemory small sound is = subst IsSound (sym is.1) sound

pub reserves_sound : (old new : HallState) (i : ℕ) (answer : Answer) → i < length old.sessions → IsSound old → Reserves old i answer new → IsSound new
reserves_sound old new i Done small sound is =
    let x = session_at old.sessions i in
    let was = sound.each i small in
    let clean = was.unchanged (ap is_writing is.0) in
    subst IsSound (sym is.3) (put_sound old.file old.sessions i (record x { lock = Reserved }) small sound
    (clean_session old.file (record x { lock = Reserved }) (λ h. was.opens (ap is_holding is.0)) clean.0 clean.1)
    (λ w k less other. neither_writes (session_at old.sessions k).lock (is.1 k less other) (is.2 k less other)))
reserves_sound old new i Page small sound is = absurd is
reserves_sound old new i Busy small sound is = subst IsSound (sym is.2) sound
reserves_sound old new i (Refused error) small sound is = absurd is
reserves_sound old new i (TagRefused page) small sound is = absurd is
reserves_sound old new i Misuse small sound is = subst IsSound (sym is.1) sound
reserves_sound old new i Down small sound is = absurd is
reserves_sound old new i DiskFault small sound is = absurd is
reserves_sound old new i EntropyFault small sound is = absurd is
reserves_sound old new i OutOfMemory small sound is = absurd is

pub changes_sound : (old new : HallState) (i : ℕ) (n : ℕ) (at : ℕ) (byte : ℕ) (answer : Answer) → i < length old.sessions → IsSound old → ChangesByte old i n at byte answer new → IsSound new
changes_sound old new i n at byte Done small sound is =
    let x = session_at old.sessions i in
    let may = may_change_parts old i n at is.0 in
    let next : Session = changing x n (slice_set is.1.0 at byte) in
    subst IsSound (sym is.1.2) (put_sound old.file old.sessions i next small sound
    (changed_session old.file x n at byte is.1.0 (sound.each i small) may.0 may.1 may.2 is.1.1)
    (λ w k less other writes. other (sound.one k i less small writes (reserved_writes x.lock may.0))))
changes_sound old new i n at byte Page small sound is = absurd is
changes_sound old new i n at byte Busy small sound is = absurd is
changes_sound old new i n at byte (Refused error) small sound is = absurd is
changes_sound old new i n at byte (TagRefused page) small sound is = subst IsSound (sym is.3) sound
changes_sound old new i n at byte Misuse small sound is = subst IsSound (sym is.1) sound
changes_sound old new i n at byte Down small sound is = absurd is
changes_sound old new i n at byte DiskFault small sound is = subst IsSound (sym is.1) sound
changes_sound old new i n at byte EntropyFault small sound is = absurd is
changes_sound old new i n at byte OutOfMemory small sound is = subst IsSound (sym is.1) sound

pub rekeys_sound : (old new : HallState) (i : ℕ) (access : Access) (answer : Answer) → i < length old.sessions → IsSound old → Rekeys old i access answer new → IsSound new
rekeys_sound old new i access Done small sound is =
    let x = session_at old.sessions i in
    let reserved = (and_true (is_reserved x.lock) (may_be_under old.layout access) is.0).0 in
    subst IsSound (sym is.2) (put_sound old.file old.sessions i (record x { new_access = Some access }) small sound
    (rekeyed_session old.file x access (sound.each i small) reserved is.1)
    (λ w k less other writes. other (sound.one k i less small writes (reserved_writes x.lock reserved))))
rekeys_sound old new i access Page small sound is = absurd is
rekeys_sound old new i access Busy small sound is = absurd is
rekeys_sound old new i access (Refused error) small sound is = absurd is
rekeys_sound old new i access (TagRefused page) small sound is = subst IsSound (sym is.2) sound
rekeys_sound old new i access Misuse small sound is = subst IsSound (sym is.1) sound
rekeys_sound old new i access Down small sound is = absurd is
rekeys_sound old new i access DiskFault small sound is = subst IsSound (sym is.1) sound
rekeys_sound old new i access EntropyFault small sound is = absurd is
rekeys_sound old new i access OutOfMemory small sound is = absurd is

pub releases_sound : (old new : HallState) (i : ℕ) (answer : Answer) → i < length old.sessions → IsSound old → Releases old i answer new → IsSound new
releases_sound old new i Done small sound is =
    let x = session_at old.sessions i in
    subst IsSound (sym is.1) (put_sound old.file old.sessions i (released x) small sound (clean_session old.file (released x) (λ h. absurd (never h)) refl refl) (λ w. absurd (never w)))
releases_sound old new i Page small sound is = absurd is
releases_sound old new i Busy small sound is = absurd is
releases_sound old new i (Refused error) small sound is = absurd is
releases_sound old new i (TagRefused page) small sound is = absurd is
releases_sound old new i Misuse small sound is = subst IsSound (sym is.1) sound
releases_sound old new i Down small sound is = absurd is
releases_sound old new i DiskFault small sound is = absurd is
releases_sound old new i EntropyFault small sound is = absurd is
releases_sound old new i OutOfMemory small sound is = absurd is

-- all are closed
pub stops_sound : (old new : HallState) (answer : Answer) → IsSound old → Stops old answer new → IsSound new
stops_sound old new Done sound is = subst IsSound (sym is.1) (record {
  each = λ k less. subst (IsSessionSound old.file) (sym (is.0.each k (within k less)))
      (clean_session old.file (closed (session_at old.sessions k)) (λ h. absurd (never h)) refl refl);
  one = λ j k one two first next. absurd (never (ap (λ (s : Session). is_writing s.lock) (sym (is.0.each j (within j one))) ∙ first));
})
  where
    within : (k : ℕ) → k < length new.sessions → k < length old.sessions
    within k less = omega (arith, less, is.0.as_many)
stops_sound old new Page sound is = absurd is
stops_sound old new Busy sound is = absurd is
stops_sound old new (Refused error) sound is = absurd is
stops_sound old new (TagRefused page) sound is = absurd is
stops_sound old new Misuse sound is = absurd is
stops_sound old new Down sound is = absurd is
stops_sound old new DiskFault sound is = absurd is
stops_sound old new EntropyFault sound is = absurd is
stops_sound old new OutOfMemory sound is = absurd is

-- ---- a commit

-- what holds the file and may not write shares it
holds_shared : (lock : Lock) → is_holding lock ≡ true → (is_writing lock ≡ true → ⊥) → lock ≡ Shared
holds_shared Closed is not = cc
holds_shared Unlocked is not = cc
holds_shared Shared is not = refl
holds_shared Reserved is not = absurd (not refl)
holds_shared Pending is not = absurd (not refl)

untrue : (b : Bool) → (b ≡ true → ⊥) → b ≡ false
untrue true never_is = absurd (never_is refl)
untrue false never_is = refl

-- The file is another, and no other session holds it.
module _ (before after : List ℕ) (xs : List Session) (i : ℕ) (x : Session) (small : i < length xs) (sound : AreSessionsSound before xs) (is_sound : IsSessionSound after x) (quiet : is_writing x.lock ≡ false)
    (none : (k : ℕ) → k < length xs → k ≢ i → is_holding (session_at xs k).lock ≡ true → ⊥)
    (unwritten : (k : ℕ) → k < length xs → k ≢ i → is_writing (session_at xs k).lock ≡ true → ⊥) where
  within : (k : ℕ) → k < length (slice_set xs i x) → k < length xs
  within k less = omega (arith, less, as_many xs i x)

  now_x : (k : ℕ) → k ≡ i → session_at (slice_set xs i x) k ≡ x
  now_x k same = ap (λ (j : ℕ). session_at (slice_set xs i x) j) same ∙ put_at xs i x small

  moved : (k : ℕ) → k < length xs → k ≢ i → IsSessionSound after (session_at xs k)
  moved k less other =
      moved_session before after (session_at xs k) (untrue (is_holding (session_at xs k).lock) (none k less other)) (untrue (is_writing (session_at xs k).lock) (unwritten k less other)) (sound.each k less)

  pub idle_sound : AreSessionsSound after (slice_set xs i x)
  idle_sound = record {
    each = λ k less. ⊎_elim (λ same. subst (IsSessionSound after) (sym (now_x k same)) is_sound)
        (λ other. subst (IsSessionSound after) (sym (beside xs i k x other)) (moved k (within k less) other)) (cases_eq k i);
    one = λ j k one two first next. absurd (⊎_elim (λ same. never (sym quiet ∙ (ap (λ (s : Session). is_writing s.lock) (sym (now_x j same)) ∙ first)))
        (λ other. unwritten j (within j one) other (ap (λ (s : Session). is_writing s.lock) (sym (beside xs i j x other)) ∙ first)) (cases_eq j i));
  }

pub commits_sound : (old new : HallState) (i : ℕ) (answer : Answer) → i < length old.sessions → IsSound old → IsUp answer → Commits old i answer new → IsSound new
commits_sound old new i Done small sound up is =
    let x = committed (session_at old.sessions i) in
    subst (λ (xs : List Session). AreSessionsSound new.file xs) (sym (ap (λ (s : HallState). s.sessions) is.3))
    (idle_sound old.file new.file old.sessions i x small sound (clean_session new.file x (λ h. absurd (never h)) refl refl) refl
    (λ k less other holds. is.1 k less other (holds_shared (session_at old.sessions k).lock holds (λ writes. other (sound.one k i less small writes is.0))))
    (λ k less other writes. other (sound.one k i less small writes is.0)))
commits_sound old new i Busy small sound up is =
    let x = session_at old.sessions i in
    subst IsSound (sym is.2) (put_sound old.file old.sessions i (record x { lock = Pending }) small sound
    (writing_session old.file x Pending is.0 refl (sound.each i small))
    (λ w k less other next. other (sound.one k i less small next is.0)))
commits_sound old new i Misuse small sound up is = subst IsSound (sym is.1) sound
commits_sound old new i OutOfMemory small sound up is = subst IsSound (sym is.2) sound
commits_sound old new i DiskFault small sound up is = absurd up
commits_sound old new i EntropyFault small sound up is = absurd up
commits_sound old new i Page small sound up is = absurd is
commits_sound old new i (Refused error) small sound up is = absurd is
commits_sound old new i (TagRefused page) small sound up is = absurd is
commits_sound old new i Down small sound up is = absurd is

-- ---- any step

pub steps_sound : (old new : HallState) (i : ℕ) (step : Step) (answer : Answer) → i < length old.sessions → IsSound old → IsUp answer → Steps old i step answer new → IsSound new
steps_sound old new i (Open secret profile) answer small sound up is = opens_sound old new i (record { profile = profile; secret = secret }) answer small sound is
steps_sound old new i Share answer small sound up is = shares_sound old new i answer small sound is
steps_sound old new i (Read n) answer small sound up is = reads_sound old new i n answer small sound is
steps_sound old new i Reserve answer small sound up is = reserves_sound old new i answer small sound is
steps_sound old new i (Change n at byte) answer small sound up is = changes_sound old new i n at byte answer small sound is
steps_sound old new i (Rekey secret profile) answer small sound up is = rekeys_sound old new i (record { profile = profile; secret = secret }) answer small sound is
steps_sound old new i Commit answer small sound up is = commits_sound old new i answer small sound up is
steps_sound old new i Release answer small sound up is = releases_sound old new i answer small sound is
steps_sound old new i Stop answer small sound up is = stops_sound old new answer sound is

-- ---- the disk

-- a disk that was only read is as settled as before
pub read_settled : {D : Type 0} {reads : D → Files} {images : D → Files → Type 0} {moment : D → ℕ} {since : D → ℕ → Files → Type 0} {old new : D}
    → OnlyRead reads images moment since old new → IsHallSettled (reads old) (images old) → IsHallSettled (reads new) (images new)
read_settled {reads = reads} {images = images} {old = old} {new = new} read settled =
    subst (λ (f : Files). IsHallSettled f (images new)) (sym read.stays) (record {
      stands = λ c now. settled.stands c (read.same_images.no_more c now);
      alone = settled.alone;
    })

-- ---- moments

-- a step that only reads leaves the images as they stood
pub read_leaves : {D : Type 0} (reads : D → Files) (images : D → Files → Type 0) (moment : D → ℕ) (since : D → ℕ → Files → Type 0)
    (counts_now : (disk : D) (t : ℕ) (c : Files) → t ≤ moment disk → images disk c → since disk t c)
    (only_now : (disk : D) (c : Files) → since disk (moment disk) c → images disk c)
    (old new : D) → IsHallSettled (reads old) (images old) → OnlyRead reads images moment since old new → LeavesOnly moment since old new (StandsAsRead (reads old))
read_leaves reads images moment since counts_now only_now old new settled read =
    goes_less counts_now (started only_now old (StandsAsRead (reads old)) settled.stands) read.time (λ c now. read.same_images.no_more c now)

pub still_leaves : {D : Type 0} (reads : D → Files) (images : D → Files → Type 0) (moment : D → ℕ) (since : D → ℕ → Files → Type 0)
    (only_now : (disk : D) (c : Files) → since disk (moment disk) c → images disk c)
    (old new : D) → IsHallSettled (reads old) (images old) → new ≡ old → LeavesOnly moment since old new (StandsAsRead (reads old))
still_leaves reads images moment since only_now old new settled same =
    subst (λ (d : _). LeavesOnly moment since old d (StandsAsRead (reads old))) (sym same) (started only_now old (StandsAsRead (reads old)) settled.stands)

-- ---- the start

-- an answer that is no fault leaves the hall up
pub up_of : (answer : Answer) → is_fault_answer answer ≡ false → IsUp answer
up_of Done is = tt
up_of Page is = tt
up_of Busy is = tt
up_of (Refused error) is = tt
up_of (TagRefused page) is = tt
up_of Misuse is = tt
up_of Down is = tt
up_of DiskFault is = cc
up_of EntropyFault is = cc
up_of OutOfMemory is = tt
