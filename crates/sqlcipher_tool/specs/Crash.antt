-- What a crash at any moment of a run leaves, and what the run leaves at its end.
use Rattle.std.specs.Prelude.{◌≡◌, ◌⊎◌, ℕ, Bool, true, IsTrue, List, [], ◌∷◌, Option, Some, None, Ok}
use Rattle.edge_model.specs.Files.{Files, bytes_of, main_of}
use Rattle.edge_model.specs.Images.{Each, From}
use Rattle.fresh_disk.specs.Published.{IsAlone}
use Rattle.fresh_file.specs.Draws.{HasOwnDraws as AreOwn}
use Rattle.make_job.specs.Free.{HasNeither}
use Rattle.make_job.specs.Made.{IsMade}
use Rattle.cipher_profile.specs.declared.keys.Secret.{Secret}
use Rattle.cipher_profile.specs.declared.profile.LineForm.{LineForm}
use Rattle.cipher_profile.specs.declared.profile.Profile.{Profile}
use Rattle.rollback_journal.specs.Recovery.{KeepsRecovered}
use Rattle.sqlcipher_tool.specs.declared.command.Command.{Command}
use Rattle.sqlcipher_tool.specs.declared.command.Command.TheVariants.{Probe, Recover, Read, Change as ChangeFile, Make}
use Rattle.sqlcipher_tool.specs.declared.change.Change.TheVariants.{Stamp, Settle, Rekey, Migrate}
use Rattle.sqlcipher_tool.specs.declared.status.Status.{Status}
use Rattle.sqlcipher_tool.specs.declared.status.Status.TheVariants.{Done, Usage, Refused, KeyRefused, DiskFault, OutputFault, InputFault, EntropyFault, OutOfMemory}
use Rattle.sqlcipher_tool.specs.Due.{key_lines}
use Rattle.sqlcipher_tool.specs.Holding.{Held, HoldsOnly, HoldsOneOf, AreOfSize, DiskRun, held_by}
use Rattle.sqlcipher_tool.specs.Make.{has_main_or_journal}
use Rattle.sqlcipher_tool.specs.Promises.{asks_some}
use Rattle.sqlcipher_tool.specs.Recovered.{recovered_main}
use Rattle.sqlcipher_tool.specs.Renewal.{Renewal, renewal, old_keys, new_keys, AreDrawnBy, IsNewDrawn, WithDraws}
use Rattle.page_codec.specs.Page.{keys_of}
use Rattle.atomic_commit.specs.Facts.{SameFresh}

-- ---- recovery, and the commands that only read after it

pub record KeepsHeld (size : ℕ) (run : DiskRun) : Type 0 where
  -- each image comes from one at the start: it recovers to no other file than that one, and still to one; Fresh is the same
  pub comes : Each run.ever (From (KeepsRecovered size) run.at_start)
  -- whatever databases of pages of this size the disk held at the start, it holds at every moment
  pub holds : (list : List Held) → AreOfSize size list → Each run.at_start (HoldsOneOf list) → Each run.ever (HoldsOneOf list)

-- Fresh is in each image as in an image at the start
abbrev pub KeepsFresh : DiskRun → Type 0
KeepsFresh run = Each run.ever (From SameFresh run.at_start)

-- nothing changes: the disk reads as before, and no crash leaves another image
pub record Stays (run : DiskRun) : Type 0 where
  pub reads : run.after ≡ run.before
  pub no_more : Each run.ever run.at_start
  pub no_fewer : Each run.at_start run.at_exit

-- the image has the same Journal
abbrev pub SameJournal : Files → Files → Type 0
SameJournal before after = after.journal ≡ before.journal

-- A file that is in the way stays, with all that is beside it, and no image ever has another Journal than one at the start.
pub record KeepsFiles (run : DiskRun) : Type 0 where
  pub in_the_way : has_main_or_journal run.before ≡ true → Stays run
  pub journal : Each run.ever (From SameJournal run.at_start)

-- ---- a new database in place of the old one

-- After Done it is the new one, after an output fault the one or the other in every image, after a disk fault either, and
-- after every other status the old one.
abbrev pub AtExit : Status → (Files → Type 0) → (Files → Type 0) → (Files → Type 0) → Type 0
AtExit Done old new images = Each images new
AtExit Usage old new images = Each images old
AtExit (Refused refusal) old new images = Each images old
AtExit KeyRefused old new images = Each images old
AtExit DiskFault old new images = Each images (λ image. old image ⊎ new image)
AtExit OutputFault old new images = Each images old ⊎ Each images new
AtExit InputFault old new images = Each images old
AtExit EntropyFault old new images = Each images old
AtExit OutOfMemory old new images = Each images old

-- no image had anything but the old one, and the command was not carried out
pub record StaysOld (status : Status) (old : Files → Type 0) (run : DiskRun) : Type 0 where
  pub any_moment : Each run.ever old
  pub not_done : status ≡ Done → ⊥

-- each image had the old one or the new one, and at the exit as the status says
pub record GoesOver (status : Status) (old new : Files → Type 0) (run : DiskRun) : Type 0 where
  pub any_moment : Each run.ever (λ image. old image ⊎ new image)
  pub at_exit : AtExit status old new run.at_exit

-- One new file for the whole run: it is Main after Done. `new` says what an image holds that has it.
pub record Renews (status : Status) (new_file : List ℕ → Type 0) (old : Files → Type 0) (new : List ℕ → Files → Type 0) (run : DiskRun) : Type 0 where
  pub file : List ℕ
  pub is_new : new_file file
  pub goes_over : GoesOver status old (new file) run
  pub is_main : status ≡ Done → bytes_of run.after.main ≡ Some file
  pub no_journal : status ≡ Done → Each run.at_exit (λ image. image.journal ≡ None)

-- there is never another than the old one, or there is one new file
abbrev pub StaysOrRenews : Status → (List ℕ → Type 0) → (Files → Type 0) → (List ℕ → Files → Type 0) → DiskRun → Type 0
StaysOrRenews status new_file old new run = StaysOld status old run ⊎ Renews status new_file old new run

-- the old database: that of the recovered file under the old keys
abbrev pub old_held : Renewal → Files → Held
old_held renewal files = let file = recovered_main renewal.old_profile files in held_by (old_keys renewal file) file

abbrev pub new_held : Renewal → List ℕ → Held
new_held renewal file = held_by (new_keys renewal file) file

-- Where each image at the start holds the old database alone, there is never another, or there is one new file, each page of which that
-- the command sealed has bytes of its own of those that were drawn.
abbrev pub IsSafely : Status → Command → Bool → List ℕ → DiskRun → Option Renewal → Type 0
IsSafely status command tells drawn run None = Unit {0}
IsSafely status command tells drawn run (Some renewal) =
    Each run.at_start (HoldsOnly (old_held renewal run.before))
    → StaysOrRenews status (IsNewDrawn command renewal tells drawn (recovered_main renewal.old_profile run.before)) (HoldsOnly (old_held renewal run.before))
    (λ file. HoldsOnly (new_held renewal file)) run

-- ---- a new file where none was

abbrev pub HasNoMain : Files → Type 0
HasNoMain image = image.main ≡ None

-- After Done Main is a made file. Where no image at the start has a Main or a Journal, there is never a Main, or there is one made file.
pub record Makes (status : Status) (profile : Profile) (secret : Secret) (rows : ℕ) (tells : Bool) (drawn : List ℕ) (run : DiskRun) : Type 0 where
  pub made : status ≡ Done → IsMade profile secret rows (main_of run.after)
  pub safely : Each run.at_start HasNeither
      → StaysOrRenews status (WithDraws (IsMade profile secret rows) tells (λ file. AreOwn (keys_of profile secret file) file drawn)) HasNoMain IsAlone run

-- the same with the secret that was given
abbrev pub MakesWith : Status → Profile → ℕ → Bool → List ℕ → DiskRun → List Secret → Type 0
MakesWith status profile rows tells drawn run [] = Unit {0}
MakesWith status profile rows tells drawn run (secret ∷ rest) = Makes status profile secret rows tells drawn run

-- ---- by command

-- these secrets are given for those that are asked for, by an input that tells its bytes, where a key line is taken of it
abbrev pub GaveKeys : Bool → List (Option LineForm) → List ℕ → List Secret → Type 0
GaveKeys tells asked left secrets = (asks_some asked ≡ true → IsTrue tells) × (key_lines asked left ≡ Ok secrets)

-- what a command keeps, whatever its status
abbrev pub Keeps : Command → DiskRun → Type 0
Keeps Probe run = Stays run
Keeps (Recover profile) run = KeepsHeld profile.page_size run
Keeps (Read profile reading) run = KeepsHeld profile.page_size run
Keeps (ChangeFile profile (Stamp field value)) run = KeepsFresh run
Keeps (ChangeFile profile (Settle frames)) run = KeepsFresh run
Keeps (ChangeFile profile (Rekey new)) run = KeepsFresh run
Keeps (ChangeFile profile (Migrate new)) run = Unit {0}
Keeps (Make profile rows) run = KeepsFiles run

-- What a command changes with the secrets that it was given, at every moment and by its status. `drawn` are the bytes that it drew, where
-- the entropy tells them.
abbrev pub ChangesBy : Status → Command → (List Secret → Type 0) → Bool → List ℕ → DiskRun → Type 0
ChangesBy status Probe gave tells drawn run = Unit {0}
ChangesBy status (Recover profile) gave tells drawn run = Unit {0}
ChangesBy status (Read profile reading) gave tells drawn run = Unit {0}
ChangesBy status (ChangeFile profile change) gave tells drawn run =
    (secrets : List Secret) → gave secrets → IsSafely status (ChangeFile profile change) tells drawn run (renewal (ChangeFile profile change) secrets)
ChangesBy status (Make profile rows) gave tells drawn run = (secrets : List Secret) → gave secrets → MakesWith status profile rows tells drawn run secrets

-- what was drawn for the new file
abbrev pub IsDrawnFor : Command → Option Renewal → List ℕ → List ℕ → Type 0
IsDrawnFor command None file drawn = Unit {0}
IsDrawnFor command (Some renewal) file drawn = AreDrawnBy command renewal file drawn

-- after Done, each page that the command sealed has drawn bytes of its own
abbrev pub DrewOwn : Command → (List Secret → Type 0) → List ℕ → List ℕ → Type 0
DrewOwn command gave file drawn =
    (secrets : List Secret) → gave secrets → IsDrawnFor command (renewal command secrets) file drawn
