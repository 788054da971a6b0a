-- The words of the top call's clauses.
use Rattle.std.specs.Prelude.{◌≡◌, ◌⊎◌, ◌≤◌, ◌+◌, ◌*◌, ◌==◌, ℕ, not, Bool, true, false, IsTrue, List, [], ◌∷◌, ◌++◌, drop, Option, Some, None, Result, Ok, Err}
use Rattle.std.specs.List.{Contains}
use Rattle.cipher_profile.specs.declared.keys.Secret.{Secret}
use Rattle.cipher_profile.specs.declared.key_line.KeyError.{KeyError}
use Rattle.cipher_profile.specs.declared.profile.LineForm.{LineForm}
use Rattle.text_lines.specs.Text.{PutsPart}
use Rattle.sqlcipher_tool.specs.Answer.{Answer, IsAnswered}
use Rattle.edge_model.specs.Files.{Files}
use Rattle.sqlcipher_tool.specs.Make.{has_main_or_journal}
use Rattle.sqlcipher_tool.specs.declared.command.Command.{Command}
use Rattle.sqlcipher_tool.specs.declared.secrets.Secrets.{Secrets}
use Rattle.sqlcipher_tool.specs.declared.command.Command.TheVariants.{Probe, Recover, Read, Change as ChangeFile, Make}
use Rattle.sqlcipher_tool.specs.declared.status.Refusal.TheVariants.{JournalPageSize, SuperJournal}
use Rattle.sqlcipher_tool.specs.declared.status.Status.{Status}
use Rattle.sqlcipher_tool.specs.declared.status.Status.TheVariants.{Done, Usage, Refused, KeyRefused, DiskFault, OutputFault, InputFault, EntropyFault, OutOfMemory}
use Rattle.sqlcipher_tool.specs.Due.{key_lines, rest_line, secret_line, word_refusal}
use Rattle.sqlcipher_tool.specs.Words.{form, asked_keys, takes_memory}

-- ---- what was asked

-- how many key lines are read
abbrev pub lines_read : List (Option LineForm) → ℕ
lines_read [] = 0
lines_read (Some form ∷ rest) = 1 + lines_read rest
lines_read (None ∷ rest) = lines_read rest

abbrev pub asks_some : List (Option LineForm) → Bool
asks_some asked = not (lines_read asked == 0)

-- a key line is read for it
abbrev pub takes_keys : Command → Bool
takes_keys command = asks_some (asked_keys command)

-- the words are a command of which this holds
abbrev pub AreWordsThat : (Command → Bool) → List (List ℕ) → Type 0
AreWordsThat test words = (command : Command) × (form words ≡ Some command) × (test command ≡ true)

-- the input tells its bytes, where a key line is taken of it
abbrev pub TellsKeys : Bool → List (List ℕ) → Type 0
TellsKeys tells words = AreWordsThat takes_keys words → IsTrue tells

-- a file is in the way of the command, which then makes none
abbrev pub is_in_the_way : Command → Files → Bool
is_in_the_way Probe files = false
is_in_the_way (Recover profile) files = false
is_in_the_way (Read profile reading) files = false
is_in_the_way (ChangeFile profile change) files = false
is_in_the_way (Make profile rows) files = has_main_or_journal files

-- a fact on the command, where the words refuse nothing
abbrev pub WhereTaken : List (List ℕ) → (Command → Type 0) → Type 0
WhereTaken words P = (command : Command) → form words ≡ Some command → word_refusal command ≡ None → P command

-- the input without the key lines, up to the first that gives no secret
abbrev pub left_after : Result Secret KeyError → List ℕ → List ℕ → List ℕ
left_after (Ok secret) rest left = rest
left_after (Err error) rest left = left

abbrev pub after_lines : List (Option LineForm) → List ℕ → List ℕ
after_lines [] left = left
after_lines (form ∷ more) left = left_after (secret_line form left) (after_lines more (rest_line form left)) (rest_line form left)

-- the two secrets of a command, as a list
abbrev pub secrets_of : Secrets → List Secret
secrets_of both = both.first ∷ both.second ∷ []

-- what was read for them
abbrev pub secrets_read : Result Secrets KeyError → Result (List Secret) KeyError
secrets_read (Ok both) = Ok (secrets_of both)
secrets_read (Err error) = Err error

-- of the input at most so many bytes were taken
pub record TakesAtMost (most : ℕ) (before after : List ℕ) : Type 0 where
  pub taken : ℕ
  pub few : taken ≤ most
  pub is : after ≡ drop taken before

-- The key lines that are read for the secrets are taken, up to the first that gives none, and no byte more. After a fault of the input it may be
-- fewer, a line of at most 1,025 bytes each.
abbrev pub TakesLines : Status → List (Option LineForm) → List ℕ → List ℕ → Type 0
TakesLines Done asked before after = after ≡ after_lines asked before
TakesLines Usage asked before after = after ≡ after_lines asked before
TakesLines (Refused refusal) asked before after = after ≡ after_lines asked before
TakesLines KeyRefused asked before after = after ≡ after_lines asked before
TakesLines DiskFault asked before after = after ≡ after_lines asked before
TakesLines OutputFault asked before after = after ≡ after_lines asked before
TakesLines InputFault asked before after = TakesAtMost (1025 * lines_read asked) before after
TakesLines EntropyFault asked before after = after ≡ after_lines asked before
TakesLines OutOfMemory asked before after = after ≡ after_lines asked before

-- ---- the answer

-- the whole text; after a fault of the output a prefix of it, and after any other fault a prefix of what may have been begun
abbrev pub PutsSo : Status → Answer → List ℕ → List ℕ → Type 0
PutsSo Done answer before after = after ≡ before ++ answer.text
PutsSo Usage answer before after = after ≡ before ++ answer.text
PutsSo (Refused refusal) answer before after = after ≡ before ++ answer.text
PutsSo KeyRefused answer before after = after ≡ before ++ answer.text
PutsSo DiskFault answer before after = PutsPart answer.begun before after
PutsSo OutputFault answer before after = PutsPart answer.text before after
PutsSo InputFault answer before after = PutsPart answer.begun before after
PutsSo EntropyFault answer before after = PutsPart answer.begun before after
PutsSo OutOfMemory answer before after = PutsPart answer.begun before after

-- one of the answers that are due came, or a fault in its place, and this was printed of it
pub record AnswersOne (answers : List Answer) (status : Status) (tells : Bool) (before after : List ℕ) : Type 0 where
  pub answer : Answer
  pub is_due : Contains answers answer
  pub answered : IsAnswered status answer
  pub puts : IsTrue tells → PutsSo status answer before after

-- the answer came, or the input or the output failed in its place
abbrev pub IsAnsweredEarly : Status → Answer → Type 0
IsAnsweredEarly status answer = (status ≡ answer.status) ⊎ (status ≡ OutputFault) ⊎ (status ≡ InputFault)

-- a refusal of the recovery
abbrev pub IsUnrecovered : Status → Type 0
IsUnrecovered Done = ⊥
IsUnrecovered Usage = ⊥
IsUnrecovered (Refused (JournalPageSize found)) = Unit {0}
IsUnrecovered (Refused SuperJournal) = Unit {0}
IsUnrecovered (Refused refusal) = ⊥
IsUnrecovered KeyRefused = ⊥
IsUnrecovered DiskFault = ⊥
IsUnrecovered OutputFault = ⊥
IsUnrecovered InputFault = ⊥
IsUnrecovered EntropyFault = ⊥
IsUnrecovered OutOfMemory = ⊥

-- memory runs out only in a command that takes some, which comes after the words and the key lines
pub record ComesLate (words : List (List ℕ)) (tells : Bool) (left : List ℕ) : Type 0 where
  pub command : Command
  pub is_form : form words ≡ Some command
  pub takes_some : takes_memory command ≡ true
  pub no_refusal : word_refusal command ≡ None
  pub has_keys : IsTrue tells → (secrets : List Secret) × (key_lines (asked_keys command) left ≡ Ok secrets)
