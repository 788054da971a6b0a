-- What the functions below `run` promise of one command: the clauses of `run` as fields, of streams and a disk as a run shows them.
use Rattle.std.specs.Prelude.{◌≡◌, ◌⊎◌, ◌≤◌, ℕ, Bool, true, false, IsTrue, IsErr, List, drop, length, Some, None, Ok, Err}
use Rattle.cipher_profile.specs.declared.key_line.KeyError.{KeyError}
use Rattle.cipher_profile.specs.declared.keys.Secret.{Secret}
use Rattle.edge_model.specs.Causes.{Rose}
use Rattle.edge_model.specs.Files.{Files, main_of}
use Rattle.sqlcipher_tool.specs.Answer.{HasDrawnCauses, IsEarly, PutsLine, is_defect_status}
use Rattle.sqlcipher_tool.specs.Behind.{LeavesRecovered}
use Rattle.sqlcipher_tool.specs.Crash.{ChangesBy, DrewOwn, GaveKeys, Keeps}
use Rattle.sqlcipher_tool.specs.Due.{asked_answers, key_answer, key_lines, secret_answers, word_refusal}
use Rattle.sqlcipher_tool.specs.Holding.{DiskRun, disk_run}
use Rattle.sqlcipher_tool.specs.Promises.{AnswersOne, IsAnsweredEarly, IsUnrecovered, TakesLines, is_in_the_way, takes_keys}
use Rattle.sqlcipher_tool.specs.Untouched.{LeavesAlone}
use Rattle.sqlcipher_tool.specs.Words.{alters, asked_keys, draws, finds, recovers_by, takes_memory, writes_beside}
use Rattle.sqlcipher_tool.specs.declared.command.Command.{Command}
use Rattle.sqlcipher_tool.specs.declared.status.Refusal.{Refusal}
use Rattle.sqlcipher_tool.specs.declared.status.Status.{Status}
use Rattle.sqlcipher_tool.specs.declared.status.Status.TheVariants.{Done, Usage, Refused, DiskFault, OutputFault, InputFault, EntropyFault, OutOfMemory}

-- ---- a run, as it is seen from outside

-- A stream over a run: whether it tells its bytes, how often it has failed, and the bytes that are left of an input, that an output has taken
-- or that were drawn of an entropy.
pub record StreamRun : Type 1 where
  pub tells : Bool
  pub faults_before : ℕ
  pub faults_after : ℕ
  pub before : List ℕ
  pub after : List ℕ
  -- the stream itself, from its first value to its last
  pub stream : Type 0
  pub from : stream
  pub to : stream

abbrev pub stream_run : {S : Type 0} → Bool → (S → ℕ) → (S → List ℕ) → S → S → StreamRun
stream_run {S} tells faults bytes old new = record {
  tells = tells;
  faults_before = faults old;
  faults_after = faults new;
  before = bytes old;
  after = bytes new;
  stream = S;
  from = old;
  to = new;
}

-- The disk over a run: whether it tells its bytes, how often it has failed, and the run as it shows it.
pub record DeviceRun : Type 1 where
  pub tells : Bool
  pub faults_before : ℕ
  pub faults_after : ℕ
  pub run : DiskRun

abbrev pub device_run : {D : Type 0} → Bool → (D → ℕ) → (D → Files) → (D → Files → Type 0) → (D → ℕ) → (D → ℕ → Files → Type 0) → D → D → DeviceRun
device_run tells faults reads images moment since old new = record {
  tells = tells;
  faults_before = faults old;
  faults_after = faults new;
  run = disk_run reads images moment since old new;
}

-- the bytes that were drawn in the run
abbrev pub drawn_in : StreamRun → List ℕ
drawn_in entropy = drop (length entropy.before) entropy.after

-- ---- what is drawn and what is left, by a command with the secrets of which `gave` holds

-- The entropy is called where the command may draw and no file is in its way, and after Done each page that it sealed has bytes of its own.
pub record Draws (command : Command) (may_draw : Bool) (gave : List Secret → Type 0) (status : Status) (entropy : StreamRun) (disk : DeviceRun) : Type 0 where
  pub draws : may_draw ≡ false → entropy.to ≡ entropy.from
  pub undrawn : IsTrue disk.tells → is_in_the_way command disk.run.before ≡ true → entropy.to ≡ entropy.from
  pub own_draws : IsTrue disk.tells → IsTrue entropy.tells → status ≡ Done → DrewOwn command gave (main_of disk.run.after) (drawn_in entropy)

-- The disk, at every moment of the run and after every status.
pub record LeavesDisk (command : Command) (gave : List Secret → Type 0) (status : Status) (entropy : StreamRun) (run : DiskRun) : Type 0 where
  pub unrecovered : IsUnrecovered status → run.after ≡ run.before
  pub recovered : LeavesRecovered status (alters command) (recovers_by command) run
  pub untouched : LeavesAlone (recovers_by command) run
  pub fresh_gone : status ≡ Done → writes_beside command ≡ true → run.after.fresh ≡ None
  pub keeps : Keeps command run
  pub changes : ChangesBy status command gave entropy.tells (drawn_in entropy) run

-- ---- the three functions

-- A command with its secrets, and whether it may draw: one of the answers that are due comes, or a fault in its place.
pub record CarriesOut (command : Command) (may_draw : Bool) (secrets : List Secret) (status : Status) (out entropy : StreamRun) (disk : DeviceRun) : Type 0 where
  pub answer : IsTrue disk.tells → AnswersOne (secret_answers command secrets disk.run.before disk.run.after) status out.tells out.before out.after
  pub line : IsTrue out.tells → (finds command ≡ true → is_defect_status status ≡ false) → PutsLine status out.before out.after
  pub memory : status ≡ OutOfMemory → takes_memory command ≡ true
  pub causes :
      HasDrawnCauses status may_draw disk.faults_before disk.faults_after out.faults_before out.faults_after entropy.faults_before entropy.faults_after
  pub drawn : Draws command may_draw (λ given. given ≡ secrets) status entropy disk
  pub leaves : IsTrue disk.tells → LeavesDisk command (λ given. given ≡ secrets) status entropy disk.run

-- A command, with the input: the words or a key line may refuse it before the disk is called.
pub record Serves (command : Command) (status : Status) (input out entropy : StreamRun) (disk : DeviceRun) : Type 0 where
  -- which answer comes
  pub word_refusals : (refusal : Refusal) → word_refusal command ≡ Some refusal → (status ≡ Refused refusal) ⊎ (status ≡ OutputFault)
  pub key_refusals :
      IsTrue input.tells → word_refusal command ≡ None → (error : KeyError) → key_lines (asked_keys command) input.before ≡ Err error
      → IsAnsweredEarly status (key_answer error)
  pub answer :
      (takes_keys command ≡ true → IsTrue input.tells) → IsTrue disk.tells
      → AnswersOne (asked_answers (word_refusal command) command input.before disk.run.before disk.run.after) status out.tells out.before out.after
  pub no_usage : status ≡ Usage → ⊥
  -- when something outside failed in its place, or memory ran out
  pub input_fault : status ≡ InputFault → Rose input.faults_before input.faults_after × (takes_keys command ≡ true)
  pub output_fault : status ≡ OutputFault → Rose out.faults_before out.faults_after
  pub disk_fault : status ≡ DiskFault → Rose disk.faults_before disk.faults_after
  pub entropy_fault : status ≡ EntropyFault → Rose entropy.faults_before entropy.faults_after × (draws command ≡ true)
  pub memory :
      status ≡ OutOfMemory → (takes_memory command ≡ true) × (word_refusal command ≡ None)
      × (IsTrue input.tells → (secrets : List Secret) × (key_lines (asked_keys command) input.before ≡ Ok secrets))
  pub input_later : input.faults_before ≤ input.faults_after
  pub output_later : out.faults_before ≤ out.faults_after
  pub disk_later : disk.faults_before ≤ disk.faults_after
  pub entropy_later : entropy.faults_before ≤ entropy.faults_after
  -- what is printed, where the input or the disk does not tell
  pub line : IsTrue out.tells → (finds command ≡ true → is_defect_status status ≡ false) → PutsLine status out.before out.after
  pub input_text : status ≡ InputFault → out.to ≡ out.from
  -- what is taken, and that an answer which needs no disk makes no call of it
  pub refused_first : (refusal : Refusal) → word_refusal command ≡ Some refusal → (input.to ≡ input.from) × (disk.run.to ≡ disk.run.from)
  pub key_first : IsTrue input.tells → word_refusal command ≡ None → IsErr (key_lines (asked_keys command) input.before) → disk.run.to ≡ disk.run.from
  pub early_first : IsEarly status → disk.run.to ≡ disk.run.from
  pub fault_first : status ≡ InputFault → disk.run.to ≡ disk.run.from
  pub takes : IsTrue input.tells → word_refusal command ≡ None → TakesLines status (asked_keys command) input.before input.after
  pub takes_none : takes_keys command ≡ false → input.to ≡ input.from
  -- what is drawn and left
  pub drawn : Draws command (draws command) (GaveKeys input.tells (asked_keys command) input.before) status entropy disk
  pub leaves : IsTrue disk.tells → LeavesDisk command (GaveKeys input.tells (asked_keys command) input.before) status entropy disk.run
