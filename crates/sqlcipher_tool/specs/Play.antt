-- `play`: a script of sessions on the recovered file. It takes no key line, its answers come of the run and not of words, input and files
-- alone, and it changes the file more than once: so it has promises of its own in place of those of a command.
use Rattle.std.specs.Prelude.{◌≡◌, ◌⊎◌, ◌≤◌, ℕ, Bool, false, IsTrue, IsOk, IsSome, List, [], All, drop, length, Some, None, Result, Ok, Err}
use Rattle.cipher_profile.specs.Profile.{is_plain}
use Rattle.cipher_profile.specs.declared.profile.Profile.{Profile}
use Rattle.edge_model.specs.Files.{Files, main_of}
use Rattle.edge_model.specs.Images.{Each, From, LeavesOnly}
use Rattle.rollback_journal.specs.Recovery.{KeepsRecovered}
use Rattle.session_hall.specs.Kept.{AreAllClosed, IsHallSettled}
use Rattle.session_hall.specs.Machine.{HallState}
use Rattle.session_play.specs.Moments.{DiskTold, StandsAs}
use Rattle.session_play.specs.Play.{StaysUp, PlaysLines, longest_line, most_lines}
use Rattle.session_play.specs.Script.{script_lines, step_of}
use Rattle.session_play.specs.declared.playing.PlayError.{PlayError}
use Rattle.session_play.specs.declared.playing.PlayError.TheVariants.{ScriptLine as NoStep, LineTooLong as LongLine, TooManyLines as ManyLines, DiskFault as DiskFails, OutputFault as OutputFails, InputFault as InputFails, EntropyFault as EntropyFails, OutOfMemory as MemoryEnds}
use Rattle.sqlcipher_tool.specs.Answer.{Puts, refused}
use Rattle.sqlcipher_tool.specs.Holding.{DiskRun}
use Rattle.sqlcipher_tool.specs.Promises.{AreWordsThat, IsUnrecovered, takes_keys}
use Rattle.sqlcipher_tool.specs.Recovered.{recovered_main, recovery_of, refused_answer}
use Rattle.sqlcipher_tool.specs.Text.{refusal_line}
use Rattle.sqlcipher_tool.specs.Words.{draws, form, play_form, plays_with_log}
use Rattle.sqlcipher_tool.specs.declared.status.Refusal.{Refusal}
use Rattle.sqlcipher_tool.specs.declared.status.Refusal.TheVariants.{ScriptLine, LineTooLong, TooManyLines}
use Rattle.sqlcipher_tool.specs.declared.status.Status.{Status}
use Rattle.sqlcipher_tool.specs.declared.status.Status.TheVariants.{Done, Refused, DiskFault, OutputFault, InputFault, EntropyFault, OutOfMemory}

-- ---- the words

-- the words are neither a command nor `play`, nor a `play` that is refused
abbrev pub AreNoWords : List (List ℕ) → Type 0
AreNoWords words = (form words ≡ None) × (play_form words ≡ None) × (plays_with_log words ≡ false)

-- they are `play` of a profile of which this holds
abbrev pub ArePlayOf : (Profile → Type 0) → List (List ℕ) → Type 0
ArePlayOf P words = (profile : Profile) × (play_form words ≡ Some profile) × P profile

-- they are `play`
abbrev pub IsPlay : List (List ℕ) → Type 0
IsPlay words = ArePlayOf (λ profile. Unit {0}) words

-- bytes are taken from the input: key lines, or a script
abbrev pub TakesInput : List (List ℕ) → Type 0
TakesInput words = AreWordsThat takes_keys words ⊎ IsPlay words

-- bytes are drawn from the entropy: pages are sealed that are not of a plain file
abbrev pub DrawsBytes : List (List ℕ) → Type 0
DrawsBytes words = AreWordsThat draws words ⊎ ArePlayOf (λ profile. is_plain profile ≡ false) words

-- ---- how it ends

-- A refusal ends it, and its line is put; after a fault of the output a prefix of that line.
abbrev pub EndsRefused : Refusal → Status → Bool → List ℕ → List ℕ → Type 0
EndsRefused refusal status tells before after =
    ((status ≡ Refused refusal) ⊎ (status ≡ OutputFault)) × (IsTrue tells → Puts status (refusal_line refusal) before after)

-- The end of a script is the status. A line that is refused is named behind the answers; nothing else is printed there.
abbrev pub EndsScript : {T : Type 0} → Result T PlayError → Status → Bool → List ℕ → List ℕ → Type 0
EndsScript (Ok done) status tells shown after = (status ≡ Done) × (after ≡ shown)
EndsScript (Err (NoStep line)) status tells shown after = EndsRefused (ScriptLine line) status tells shown after
EndsScript (Err (LongLine line)) status tells shown after = EndsRefused (LineTooLong line) status tells shown after
EndsScript (Err ManyLines) status tells shown after = EndsRefused TooManyLines status tells shown after
EndsScript (Err DiskFails) status tells shown after = (status ≡ DiskFault) × (after ≡ shown)
EndsScript (Err OutputFails) status tells shown after = (status ≡ OutputFault) × (after ≡ shown)
EndsScript (Err InputFails) status tells shown after = (status ≡ InputFault) × (after ≡ shown)
EndsScript (Err EntropyFails) status tells shown after = (status ≡ EntropyFault) × (after ≡ shown)
EndsScript (Err MemoryEnds) status tells shown after = (status ≡ OutOfMemory) × (after ≡ shown)

-- ---- before a line is read

-- the recovery is refused so
abbrev pub IsDueTo : Profile → Bool → Files → Refusal → Type 0
IsDueTo profile tells files refusal =
    IsUnrecovered (Refused refusal) × (IsTrue tells → refused_answer (recovery_of profile files) ≡ Some (refused refusal))

-- The journal was refused, or the disk failed or memory ran out, and then nothing is printed. No line was read and nothing drawn, and at each
-- moment an image recovers to what one at the start recovers to.
pub record IsScriptUnread (profile : Profile) (status : Status) (sink disk : Bool) (run : DiskRun) (left rest before after drawn drawn_after : List ℕ) : Type 0 where
  pub ends :
      ((refusal : Refusal) × IsDueTo profile disk run.before refusal × EndsRefused refusal status sink before after)
      ⊎ (((status ≡ DiskFault) ⊎ (status ≡ OutOfMemory)) × (after ≡ before))
  pub unread : rest ≡ left
  pub undrawn : drawn_after ≡ drawn
  pub moments : IsTrue disk → Each run.ever (From (KeepsRecovered profile.page_size) run.at_start)

-- ---- the script

-- a hall that was opened on this file: all its sixteen sessions are closed, and no page was read
pub record IsOpenedHall (layout : Profile) (file : List ℕ) (hall : HallState) : Type 0 where
  pub main : hall.file ≡ file
  pub laid : hall.layout ≡ layout
  pub many : length hall.sessions ≡ 16
  pub all_closed : AreAllClosed hall.sessions
  pub no_page : hall.page ≡ []

-- The script was played in this hall, which ends as this one. Where no step failed, each image at the end is as the disk reads, with no
-- journal beside a Main with a byte; what it may be after one that failed is said with the replies.
pub record IsScriptPlayedIn {T D : Type 0} (layout : Profile) (played : Result T PlayError) (source sink disk entropy : Bool) (leaves : (Files → Type 0) → Type 0)
    (told : DiskTold D) (from to : D) (now : Files) (images : Files → Type 0) (left rest before after drawn drawn_after : List ℕ) (hall : HallState) : Type 0 where
  pub last : HallState
  pub is_main : IsTrue disk → last.file ≡ main_of now
  pub plays : PlaysLines layout played source sink disk entropy leaves (Each images) told from to left rest before after drawn drawn_after hall last
  pub settled : StaysUp played → IsTrue disk → IsHallSettled now images
  pub taken : IsTrue source → (n : ℕ) × (rest ≡ drop n left)

-- A script was played on this file, and so it ended.
pub record IsScriptPlayedOn {D : Type 0} (layout : Profile) (file : List ℕ) (status : Status) (source sink disk entropy : Bool) (leaves : (Files → Type 0) → Type 0)
    (told : DiskTold D) (from to : D) (now : Files) (images : Files → Type 0) (left rest before after drawn drawn_after : List ℕ) : Type 0 where
  pub played : Result (Unit {0}) PlayError
  pub shown : List ℕ
  pub hall : HallState
  pub opened : IsTrue disk → IsOpenedHall layout file hall
  pub script : IsScriptPlayedIn layout played source sink disk entropy leaves told from to now images left rest before shown drawn drawn_after hall
  pub ends : EndsScript played status sink shown after

-- At each moment an image recovers to what one at the start recovers to, or has this.
abbrev pub LeavesOldOr : ℕ → DiskRun → (Files → Type 0) → Type 0
LeavesOldOr size run P = Each run.ever (λ image. From (KeepsRecovered size) run.at_start image ⊎ P image)

-- Main was recovered: up to this disk of the run each image recovers to what one at the start recovers to, and here Main is the recovered file, and
-- no crash leaves anything else.
pub record IsRecoveredTo (profile : Profile) (run : DiskRun) (disk : run.device) : Type 0 where
  pub recovers : IsOk (recovery_of profile run.before)
  pub keeps : LeavesOnly run.told.moment run.told.since run.from disk (From (KeepsRecovered profile.page_size) run.at_start)
  pub stands : StandsAs (recovered_main profile run.before) (run.told.reads disk) (run.told.images disk)

-- Main was recovered, and from there on a script was played on it.
pub record IsScriptPlayed (profile : Profile) (status : Status) (source sink disk entropy : Bool) (run : DiskRun) (left rest before after drawn drawn_after : List ℕ) : Type 0 where
  pub begun : run.device
  pub recovered : IsTrue disk → IsRecoveredTo profile run begun
  pub script : IsScriptPlayedOn profile (recovered_main profile run.before) status source sink disk entropy (LeavesOldOr profile.page_size run) run.told begun run.to run.after run.at_exit
      left rest before after drawn drawn_after

-- A run of `play`. The four flags say of the source, the sink, the disk and the entropy whether they tell of their bytes.
abbrev pub PlaysScript : Profile → Status → Bool → Bool → Bool → Bool → DiskRun → List ℕ → List ℕ → List ℕ → List ℕ → List ℕ → List ℕ → Type 0
PlaysScript profile status source sink disk entropy run left rest before after drawn drawn_after =
    IsScriptUnread profile status sink disk run left rest before after drawn drawn_after
    ⊎ IsScriptPlayed profile status source sink disk entropy run left rest before after drawn drawn_after

-- ---- where nothing stands in its way

-- a line of at most 1,100 bytes that is a step
abbrev pub IsGoodLine : Profile → List ℕ → Type 0
IsGoodLine layout line = (length line ≤ longest_line) × IsSome (step_of layout line)

-- The words are `play`, Main recovers, and each line of the script is a step.
pub record CanBePlayed (words : List (List ℕ)) (left : List ℕ) (files : Files) : Type 0 where
  pub profile : Profile
  pub is_play : play_form words ≡ Some profile
  pub recovers : IsOk (recovery_of profile files)
  pub few : length (script_lines left) ≤ most_lines
  pub steps : All (IsGoodLine profile) (script_lines left)
