-- While a session is shared, no step changes the file.
use Rattle.std.proofs.Common.{◌≡◌, ◌∙◌, ℕ, true, false, List, [], ◌∷◌, ⊎_elim, sym, ap}
use Rattle.std.proofs.lemmas.Bool.{cases_eq}
use Rattle.session_hall.specs.Key.{Access}
use Rattle.session_hall.specs.Locks.{is_writing}
use Rattle.session_hall.specs.Machine.{ChangesByte, Commits, Opens, Reads, Rekeys, Releases, Reserves, Shares, HallState, Steps, Stops, may_commit}
use Rattle.session_hall.specs.Run.{IsSharing, SharedFileStays}
use Rattle.session_hall.specs.Session.{HasNoOther, session_at}
use Rattle.session_hall.specs.declared.lock.Lock.TheVariants.{Shared}
use Rattle.session_hall.specs.declared.step.Answer.{Answer}
use Rattle.session_hall.specs.declared.step.Answer.TheVariants.{Done, Page, Busy, Refused, TagRefused, Misuse, Down, DiskFault, EntropyFault, OutOfMemory}
use Rattle.session_hall.specs.declared.step.Step.{Step}
use Rattle.session_hall.specs.declared.step.Step.TheVariants.{Open, Share, Read, Reserve, Change, Rekey, Commit, Release, Stop}

abbrev file_of : HallState → List ℕ
file_of s = s.file

opens_file : (old new : HallState) (j : ℕ) (access : Access) (answer : Answer) → Opens old j access answer new → new.file ≡ old.file
opens_file old new j access Done is = ap file_of is.1
opens_file old new j access Page is = absurd is
opens_file old new j access Busy is = absurd is
opens_file old new j access (Refused error) is = absurd is
opens_file old new j access (TagRefused page) is = absurd is
opens_file old new j access Misuse is = ap file_of is.1
opens_file old new j access Down is = absurd is
opens_file old new j access DiskFault is = absurd is
opens_file old new j access EntropyFault is = absurd is
opens_file old new j access OutOfMemory is = absurd is

shares_file : (old new : HallState) (j : ℕ) (answer : Answer) → Shares old j answer new → new.file ≡ old.file
shares_file old new j Done is = ap file_of is.2.2
shares_file old new j Page is = absurd is
shares_file old new j Busy is = ap file_of is.2
shares_file old new j (Refused error) is = ap file_of is.3
shares_file old new j (TagRefused page) is = absurd is
shares_file old new j Misuse is = ap file_of is.1
shares_file old new j Down is = absurd is
shares_file old new j DiskFault is = ap file_of is.2
shares_file old new j EntropyFault is = absurd is
shares_file old new j OutOfMemory is = ap file_of is.2

reads_file : (old new : HallState) (j : ℕ) (n : ℕ) (answer : Answer) → Reads old j n answer new → new.file ≡ old.file
reads_file old new j n Done is = absurd is
reads_file old new j n Page is = ap file_of is.2
reads_file old new j n Busy is = absurd is
reads_file old new j n (Refused error) is = absurd is
reads_file old new j n (TagRefused page) is = ap file_of is.3
reads_file old new j n Misuse is = ap file_of is.1
reads_file old new j n Down is = absurd is
reads_file old new j n DiskFault is = ap file_of is.1
reads_file old new j n EntropyFault is = absurd is
reads_file old new j n OutOfMemory is = ap file_of is.1

reserves_file : (old new : HallState) (j : ℕ) (answer : Answer) → Reserves old j answer new → new.file ≡ old.file
reserves_file old new j Done is = ap file_of is.3
reserves_file old new j Page is = absurd is
reserves_file old new j Busy is = ap file_of is.2
reserves_file old new j (Refused error) is = absurd is
reserves_file old new j (TagRefused page) is = absurd is
reserves_file old new j Misuse is = ap file_of is.1
reserves_file old new j Down is = absurd is
reserves_file old new j DiskFault is = absurd is
reserves_file old new j EntropyFault is = absurd is
reserves_file old new j OutOfMemory is = absurd is

changes_file : (old new : HallState) (j : ℕ) (n : ℕ) (at : ℕ) (byte : ℕ) (answer : Answer) → ChangesByte old j n at byte answer new → new.file ≡ old.file
changes_file old new j n at byte Done is = ap file_of is.1.2
changes_file old new j n at byte Page is = absurd is
changes_file old new j n at byte Busy is = absurd is
changes_file old new j n at byte (Refused error) is = absurd is
changes_file old new j n at byte (TagRefused page) is = ap file_of is.3
changes_file old new j n at byte Misuse is = ap file_of is.1
changes_file old new j n at byte Down is = absurd is
changes_file old new j n at byte DiskFault is = ap file_of is.1
changes_file old new j n at byte EntropyFault is = absurd is
changes_file old new j n at byte OutOfMemory is = ap file_of is.1

rekeys_file : (old new : HallState) (j : ℕ) (access : Access) (answer : Answer) → Rekeys old j access answer new → new.file ≡ old.file
rekeys_file old new j access Done is = ap file_of is.2
rekeys_file old new j access Page is = absurd is
rekeys_file old new j access Busy is = absurd is
rekeys_file old new j access (Refused error) is = absurd is
rekeys_file old new j access (TagRefused page) is = ap file_of is.2
rekeys_file old new j access Misuse is = ap file_of is.1
rekeys_file old new j access Down is = absurd is
rekeys_file old new j access DiskFault is = ap file_of is.1
rekeys_file old new j access EntropyFault is = absurd is
rekeys_file old new j access OutOfMemory is = absurd is

releases_file : (old new : HallState) (j : ℕ) (answer : Answer) → Releases old j answer new → new.file ≡ old.file
releases_file old new j Done is = ap file_of is.1
releases_file old new j Page is = absurd is
releases_file old new j Busy is = absurd is
releases_file old new j (Refused error) is = absurd is
releases_file old new j (TagRefused page) is = absurd is
releases_file old new j Misuse is = ap file_of is.1
releases_file old new j Down is = absurd is
releases_file old new j DiskFault is = absurd is
releases_file old new j EntropyFault is = absurd is
releases_file old new j OutOfMemory is = absurd is

stops_file : (old new : HallState) (answer : Answer) → Stops old answer new → new.file ≡ old.file
stops_file old new Done is = ap file_of is.1
stops_file old new Page is = absurd is
stops_file old new Busy is = absurd is
stops_file old new (Refused error) is = absurd is
stops_file old new (TagRefused page) is = absurd is
stops_file old new Misuse is = absurd is
stops_file old new Down is = absurd is
stops_file old new DiskFault is = absurd is
stops_file old new EntropyFault is = absurd is
stops_file old new OutOfMemory is = absurd is

-- no session commits while another is shared, nor one that is shared itself
in_the_way : (old : HallState) (i j : ℕ) → IsSharing i old → may_commit old j ≡ true → HasNoOther Shared j old.sessions → ⊥
in_the_way old i j sharing may none = ⊎_elim
    (λ same. never (ap is_writing (sym sharing.1) ∙ (ap (λ (k : ℕ). is_writing (session_at old.sessions k).lock) same ∙ may)))
    (λ other. none i sharing.0 other sharing.1) (cases_eq i j)
  where
    never : false ≡ true → ⊥
    never is = cc

commits_file : (old new : HallState) (i j : ℕ) (answer : Answer) → IsSharing i old → Commits old j answer new → new.file ≡ old.file
commits_file old new i j Done sharing is = absurd (in_the_way old i j sharing is.0 is.1)
commits_file old new i j Page sharing is = absurd is
commits_file old new i j Busy sharing is = ap file_of is.2
commits_file old new i j (Refused error) sharing is = absurd is
commits_file old new i j (TagRefused page) sharing is = absurd is
commits_file old new i j Misuse sharing is = ap file_of is.1
commits_file old new i j Down sharing is = absurd is
commits_file old new i j DiskFault sharing is = absurd (in_the_way old i j sharing is.0 is.1)
commits_file old new i j EntropyFault sharing is = absurd (in_the_way old i j sharing is.0 is.1)
commits_file old new i j OutOfMemory sharing is = ap file_of is.2

step_file : (old new : HallState) (i j : ℕ) (step : Step) (answer : Answer) → IsSharing i old → Steps old j step answer new → new.file ≡ old.file
step_file old new i j (Open secret profile) answer sharing is = opens_file old new j (record { profile = profile; secret = secret }) answer is
step_file old new i j Share answer sharing is = shares_file old new j answer is
step_file old new i j (Read n) answer sharing is = reads_file old new j n answer is
step_file old new i j Reserve answer sharing is = reserves_file old new j answer is
step_file old new i j (Change n at byte) answer sharing is = changes_file old new j n at byte answer is
step_file old new i j (Rekey secret profile) answer sharing is = rekeys_file old new j (record { profile = profile; secret = secret }) answer is
step_file old new i j Commit answer sharing is = commits_file old new i j answer sharing is
step_file old new i j Release answer sharing is = releases_file old new j answer is
step_file old new i j Stop answer sharing is = stops_file old new answer is

pub shared_file_stays : SharedFileStays
shared_file_stays old new [] i run = ap file_of run.1
shared_file_stays old new (turn ∷ turns) i run =
    shared_file_stays run.1.0 new turns i run.1.2 ∙ step_file old run.1.0 i turn.session turn.step turn.answer run.0 run.1.1
