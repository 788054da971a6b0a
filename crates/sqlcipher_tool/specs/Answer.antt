-- The answer of a run: its status, and what it prints.
use Rattle.std.specs.Prelude.{◌≡◌, ◌⊎◌, ◌≤◌, ℕ, Bool, true, false, IsTrue, List, [], ◌∷◌, ◌++◌, Option, Some, None, if◌then◌else◌}
use Rattle.edge_model.specs.Causes.{Rose}
use Rattle.text_lines.specs.Text.{PutsPart}
use Rattle.sqlcipher_tool.specs.declared.status.Refusal.{Refusal}
use Rattle.sqlcipher_tool.specs.declared.status.Refusal.TheVariants.{NoTags, LayoutDiffers, OnlyRead, LogVersion, LogPageSize, LogShort, LogTooLarge, LogOfOther, KeyMissing, KeyEmpty, KeyTooLong, KeyForm, KeyUnsalted, KeyNotHex, FileThere, JournalThere, Empty, Short, HeaderFault, WalMode, AutoVacuum, Ragged, TooLarge, PageTag, JournalPageSize, SuperJournal, Defect, TooManyPages, NoTable, IndexesDiffer, ScriptLine, LineTooLong, TooManyLines}
use Rattle.sqlcipher_tool.specs.declared.status.Status.{Status}
use Rattle.sqlcipher_tool.specs.declared.status.Status.TheVariants.{Done, Usage, Refused, KeyRefused, DiskFault, OutputFault, InputFault, EntropyFault, OutOfMemory}
use Rattle.sqlcipher_tool.specs.Text.{refusal_line, usage_line, key_refused_line}

pub record Answer : Type 0 where
  pub status : Status
  pub text : List ℕ
  -- what of the text may be printed before something fails: a report, or the lines of pages
  pub begun : List ℕ

-- a cause of a refusal: whether it holds, and the answer that it has
pub record Cause : Type 0 where
  pub holds : Bool
  pub answer : Answer

-- the answer of the first cause that holds, none where none does
abbrev pub first_answer : List Cause → Option Answer
first_answer [] = None
first_answer (cause ∷ causes) = if cause.holds then Some cause.answer else first_answer causes

abbrev pub done : List ℕ → Answer
done report = record { status = Done; text = report; begun = report }

abbrev pub refused : Refusal → Answer
refused refusal = record { status = Refused refusal; text = refusal_line refusal; begun = [] }

abbrev pub usage : Answer
usage = record { status = Usage; text = usage_line; begun = [] }

abbrev pub key_refused : Answer
key_refused = record { status = KeyRefused; text = key_refused_line; begun = [] }

-- the command was answered
abbrev pub IsAnswer : Status → Type 0
IsAnswer Done = Unit {0}
IsAnswer Usage = Unit {0}
IsAnswer (Refused refusal) = Unit {0}
IsAnswer KeyRefused = Unit {0}
IsAnswer DiskFault = ⊥
IsAnswer OutputFault = ⊥
IsAnswer InputFault = ⊥
IsAnswer EntropyFault = ⊥
IsAnswer OutOfMemory = ⊥

-- it was not: something outside failed, or memory ran out
abbrev pub IsFault : Status → Type 0
IsFault Done = ⊥
IsFault Usage = ⊥
IsFault (Refused refusal) = ⊥
IsFault KeyRefused = ⊥
IsFault DiskFault = Unit {0}
IsFault OutputFault = Unit {0}
IsFault InputFault = Unit {0}
IsFault EntropyFault = Unit {0}
IsFault OutOfMemory = Unit {0}

-- the whole text was appended, or after a fault a prefix of it
abbrev pub Puts : Status → List ℕ → List ℕ → List ℕ → Type 0
Puts Done text before after = after ≡ before ++ text
Puts Usage text before after = after ≡ before ++ text
Puts (Refused refusal) text before after = after ≡ before ++ text
Puts KeyRefused text before after = after ≡ before ++ text
Puts DiskFault text before after = PutsPart text before after
Puts OutputFault text before after = PutsPart text before after
Puts InputFault text before after = PutsPart text before after
Puts EntropyFault text before after = PutsPart text before after
Puts OutOfMemory text before after = PutsPart text before after

-- the exit status of the program
abbrev pub code_of : Status → ℕ
code_of Done = 0
code_of Usage = 1
code_of (Refused refusal) = 2
code_of KeyRefused = 3
code_of DiskFault = 4
code_of OutputFault = 5
code_of InputFault = 6
code_of EntropyFault = 7
code_of OutOfMemory = 8

-- the words or the key line alone decide it
abbrev pub is_early_refusal : Refusal → Bool
is_early_refusal NoTags = true
is_early_refusal LayoutDiffers = true
is_early_refusal OnlyRead = true
is_early_refusal KeyMissing = true
is_early_refusal KeyEmpty = true
is_early_refusal KeyTooLong = true
is_early_refusal KeyForm = true
is_early_refusal KeyUnsalted = true
is_early_refusal KeyNotHex = true
is_early_refusal FileThere = false
is_early_refusal JournalThere = false
is_early_refusal Empty = false
is_early_refusal (Short len) = false
is_early_refusal (HeaderFault offset found) = false
is_early_refusal WalMode = false
is_early_refusal AutoVacuum = false
is_early_refusal (Ragged len) = false
is_early_refusal (TooLarge pages) = false
is_early_refusal (PageTag page) = false
is_early_refusal (JournalPageSize found) = false
is_early_refusal SuperJournal = false
is_early_refusal (LogVersion found) = false
is_early_refusal (LogPageSize found) = false
is_early_refusal (LogShort pages) = false
is_early_refusal LogTooLarge = false
is_early_refusal LogOfOther = false
is_early_refusal (Defect defect) = false
is_early_refusal (TooManyPages limit) = false
is_early_refusal NoTable = false
is_early_refusal (IndexesDiffer differing checked) = false
is_early_refusal (ScriptLine line) = false
is_early_refusal (LineTooLong line) = false
is_early_refusal TooManyLines = false

-- it may have other lines before its own: those of pages whose tags do not hold, or of indexes that differ
abbrev pub has_lines_before : Refusal → Bool
has_lines_before NoTags = false
has_lines_before LayoutDiffers = false
has_lines_before OnlyRead = false
has_lines_before KeyMissing = false
has_lines_before KeyEmpty = false
has_lines_before KeyTooLong = false
has_lines_before KeyForm = false
has_lines_before KeyUnsalted = false
has_lines_before KeyNotHex = false
has_lines_before FileThere = false
has_lines_before JournalThere = false
has_lines_before Empty = false
has_lines_before (Short len) = false
has_lines_before (HeaderFault offset found) = false
has_lines_before WalMode = false
has_lines_before AutoVacuum = false
has_lines_before (Ragged len) = false
has_lines_before (TooLarge pages) = false
has_lines_before (PageTag page) = true
has_lines_before (JournalPageSize found) = false
has_lines_before SuperJournal = false
has_lines_before (LogVersion found) = false
has_lines_before (LogPageSize found) = false
has_lines_before (LogShort pages) = false
has_lines_before LogTooLarge = false
has_lines_before LogOfOther = false
has_lines_before (Defect defect) = false
has_lines_before (TooManyPages limit) = false
has_lines_before NoTable = false
has_lines_before (IndexesDiffer differing checked) = true
has_lines_before (ScriptLine line) = false
has_lines_before (LineTooLong line) = false
has_lines_before TooManyLines = false

-- the one line of an answer that has one
abbrev pub status_line : Status → Option (List ℕ)
status_line Done = None
status_line Usage = Some usage_line
status_line (Refused refusal) = if has_lines_before refusal then None else Some (refusal_line refusal)
status_line KeyRefused = Some key_refused_line
status_line DiskFault = None
status_line OutputFault = None
status_line InputFault = None
status_line EntropyFault = None
status_line OutOfMemory = None

-- an answer of one line puts exactly that line
abbrev pub PutsLine : Status → List ℕ → List ℕ → Type 0
PutsLine status before after = (line : List ℕ) → status_line status ≡ Some line → after ≡ before ++ line

-- it is a defect that was met
abbrev pub is_defect_status : Status → Bool
is_defect_status (Refused (Defect defect)) = true
is_defect_status (Refused refusal) = false
is_defect_status Done = false
is_defect_status Usage = false
is_defect_status KeyRefused = false
is_defect_status DiskFault = false
is_defect_status OutputFault = false
is_defect_status InputFault = false
is_defect_status EntropyFault = false
is_defect_status OutOfMemory = false

-- an answer that needs no file
abbrev pub IsEarly : Status → Type 0
IsEarly Done = ⊥
IsEarly Usage = Unit {0}
IsEarly (Refused refusal) = IsTrue (is_early_refusal refusal)
IsEarly KeyRefused = ⊥
IsEarly DiskFault = ⊥
IsEarly OutputFault = ⊥
IsEarly InputFault = ⊥
IsEarly EntropyFault = ⊥
IsEarly OutOfMemory = ⊥

-- where a status blames an object, its count of faults rose; the counts never fall, and no other fault is answered
pub record HasCauses (status : Status) (disk_before disk_after output_before output_after : ℕ) : Type 0 where
  pub disk : status ≡ DiskFault → Rose disk_before disk_after
  pub output : status ≡ OutputFault → Rose output_before output_after
  pub input : status ≡ InputFault → ⊥
  pub entropy : status ≡ EntropyFault → ⊥
  pub usage : status ≡ Usage → ⊥
  pub late : IsEarly status → ⊥
  pub disk_later : disk_before ≤ disk_after
  pub output_later : output_before ≤ output_after

-- The same of a command that may draw: a fault of the entropy is answered where its count rose too.
pub record HasDrawnCauses (status : Status) (draws : Bool) (disk_before disk_after output_before output_after entropy_before entropy_after : ℕ) : Type 0 where
  pub disk : status ≡ DiskFault → Rose disk_before disk_after
  pub output : status ≡ OutputFault → Rose output_before output_after
  pub entropy : status ≡ EntropyFault → Rose entropy_before entropy_after × (draws ≡ true)
  pub input : status ≡ InputFault → ⊥
  pub usage : status ≡ Usage → ⊥
  pub late : IsEarly status → ⊥
  pub disk_later : disk_before ≤ disk_after
  pub output_later : output_before ≤ output_after
  pub entropy_later : entropy_before ≤ entropy_after

-- the answer that is due, or a fault in its place
abbrev pub IsAnswered : Status → Answer → Type 0
IsAnswered status due = (status ≡ due.status) ⊎ IsFault status

-- how a command ends that was given a secret
abbrev pub IsStopStatus : Status → Type 0
IsStopStatus Done = Unit {0}
IsStopStatus Usage = ⊥
IsStopStatus (Refused refusal) = Unit {0}
IsStopStatus KeyRefused = Unit {0}
IsStopStatus DiskFault = Unit {0}
IsStopStatus OutputFault = Unit {0}
IsStopStatus InputFault = ⊥
IsStopStatus EntropyFault = ⊥
IsStopStatus OutOfMemory = Unit {0}

-- how a command ends whose key lines gave no secret
abbrev pub IsKeyStatus : Status → Type 0
IsKeyStatus Done = ⊥
IsKeyStatus Usage = ⊥
IsKeyStatus (Refused refusal) = Unit {0}
IsKeyStatus KeyRefused = ⊥
IsKeyStatus DiskFault = ⊥
IsKeyStatus OutputFault = Unit {0}
IsKeyStatus InputFault = Unit {0}
IsKeyStatus EntropyFault = ⊥
IsKeyStatus OutOfMemory = ⊥
