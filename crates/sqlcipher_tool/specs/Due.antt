-- The answers that may come of the words, the input and the files, where nothing outside fails and memory does not run out. The files
-- are those before the run, and those after it: `migrate` reports the count of pages of the file that it has made.
use Rattle.std.specs.Prelude.{ℕ, Bool, true, false, List, [], ◌∷◌, Option, Some, None, Result, Ok, Err, if◌then◌else◌}
use Rattle.edge_model.specs.Files.{Files, main_of}
use Rattle.cipher_profile.specs.declared.key_line.KeyError.{KeyError}
use Rattle.cipher_profile.specs.declared.key_line.KeyError.TheVariants.{KeyMissing, KeyEmpty, KeyTooLong, KeyForm, KeyUnsalted, KeyNotHex, SourceFault}
use Rattle.cipher_profile.specs.declared.keys.Secret.{Secret}
use Rattle.cipher_profile.specs.declared.keys.Secret.TheVariants.{NoKey}
use Rattle.cipher_profile.specs.KeyLine.{after_line, key_line}
use Rattle.cipher_profile.specs.declared.profile.LineForm.{LineForm}
use Rattle.sqlcipher_tool.specs.Answer.{Answer, refused, usage}
use Rattle.sqlcipher_tool.specs.declared.change.Change.{Change}
use Rattle.sqlcipher_tool.specs.declared.change.Change.TheVariants.{Stamp, Settle, Rekey, Migrate}
use Rattle.sqlcipher_tool.specs.declared.command.Command.{Command}
use Rattle.sqlcipher_tool.specs.declared.command.Command.TheVariants.{Probe, Recover, Read, Change as ChangeFile, Make}
use Rattle.sqlcipher_tool.specs.declared.status.Refusal.{Refusal}
use Rattle.sqlcipher_tool.specs.declared.status.Refusal.TheVariants.{OnlyRead, NoTags, LayoutDiffers, KeyMissing as RefusedMissing, KeyEmpty as RefusedEmpty, KeyTooLong as RefusedLong, KeyForm as RefusedForm, KeyUnsalted as RefusedUnsalted, KeyNotHex as RefusedNotHex}
use Rattle.sqlcipher_tool.specs.declared.status.Status.TheVariants.{InputFault}
use Rattle.sqlcipher_tool.specs.Reading.{reading_answers}
use Rattle.sqlcipher_tool.specs.Make.{make_answers}
use Rattle.sqlcipher_tool.specs.Migrate.{migrate_answers}
use Rattle.sqlcipher_tool.specs.Probe.{probe_answer}
use Rattle.sqlcipher_tool.specs.Recovered.{recovered_answers, recovery_answer, recovery_of}
use Rattle.sqlcipher_tool.specs.Rekey.{rekey_answers}
use Rattle.sqlcipher_tool.specs.Renewal.{Renewal, pages_under, renewed}
use Rattle.sqlcipher_tool.specs.Settle.{settle_answer}
use Rattle.sqlcipher_tool.specs.Stamp.{stamp_answer}
use Rattle.sqlcipher_tool.specs.Words.{form, asked_keys, is_only_read, lacks_tags, layouts_differ, plays_with_log}

-- the refusal that the words alone decide
abbrev pub word_refusal : Command → Option Refusal
word_refusal command =
    if is_only_read command then Some OnlyRead
    else (if lacks_tags command then Some NoTags else (if layouts_differ command then Some LayoutDiffers else None))

-- the next secret: that of a key line of this form, where one is read for it, and else that of a plain file
abbrev pub secret_line : Option LineForm → List ℕ → Result Secret KeyError
secret_line (Some form) left = key_line form left
secret_line None left = Ok NoKey

-- the input behind it
abbrev pub rest_line : Option LineForm → List ℕ → List ℕ
rest_line (Some form) left = after_line left
rest_line None left = left

-- the secrets, for each of which a key line of a form is read or none, or the error of the first line that gives none
abbrev pub and_secrets : Result Secret KeyError → Result (List Secret) KeyError → Result (List Secret) KeyError
and_secrets (Err error) rest = Err error
and_secrets (Ok secret) (Err error) = Err error
and_secrets (Ok secret) (Ok rest) = Ok (secret ∷ rest)

abbrev pub key_lines : List (Option LineForm) → List ℕ → Result (List Secret) KeyError
key_lines [] left = Ok []
key_lines (form ∷ more) left = and_secrets (secret_line form left) (key_lines more (rest_line form left))

-- the answer to a key line that gives no secret; the last is never due to a line
abbrev pub key_answer : KeyError → Answer
key_answer KeyMissing = refused RefusedMissing
key_answer KeyEmpty = refused RefusedEmpty
key_answer KeyTooLong = refused RefusedLong
key_answer KeyForm = refused RefusedForm
key_answer KeyUnsalted = refused RefusedUnsalted
key_answer KeyNotHex = refused RefusedNotHex
key_answer SourceFault = record { status = InputFault; text = []; begun = [] }

-- a command with one secret
abbrev pub with_one : List Secret → (Secret → List Answer) → List Answer
with_one [] answers = []
with_one (secret ∷ rest) answers = answers secret

-- a command with two
abbrev pub with_two : List Secret → (Secret → Secret → List Answer) → List Answer
with_two [] answers = []
with_two (first ∷ []) answers = []
with_two (first ∷ second ∷ rest) answers = answers first second

-- what may be answered of the file that is changed, once it is recovered; it is `after` at the end
abbrev pub change_answers : Change → Renewal → List ℕ → List ℕ → List Answer
change_answers (Stamp field value) renewal file after = stamp_answer renewal.old_profile renewal.old_secret file ∷ []
change_answers (Settle frames) renewal file after = settle_answer renewal.old_profile renewal.old_secret frames file ∷ []
change_answers (Rekey new) renewal file after = rekey_answers renewal.old_profile renewal.old_secret file
change_answers (Migrate new) renewal file after =
    migrate_answers renewal.old_profile renewal.old_secret renewal.new_profile (pages_under renewal.new_profile renewal.new_secret after) file

-- the answers to a command with its secrets
abbrev pub secret_answers : Command → List Secret → Files → Files → List Answer
secret_answers Probe secrets files after = with_one secrets (λ secret. probe_answer secret files ∷ [])
secret_answers (Recover profile) secrets files after = recovery_answer (recovery_of profile files) ∷ []
secret_answers (Read profile reading) secrets files after = with_one secrets (λ secret. recovered_answers profile files (reading_answers reading profile secret))
secret_answers (ChangeFile profile change) secrets files after =
    with_two secrets (λ first second. recovered_answers profile files (λ file. change_answers change (renewed profile change first second) file (main_of after)))
secret_answers (Make profile rows) secrets files after = with_one secrets (λ secret. make_answers profile rows files)

-- the answers to a command with what its key lines give
abbrev pub keyed_answers : Command → Result (List Secret) KeyError → Files → Files → List Answer
keyed_answers command (Ok secrets) files after = secret_answers command secrets files after
keyed_answers command (Err error) files after = key_answer error ∷ []

abbrev pub asked_answers : Option Refusal → Command → List ℕ → Files → Files → List Answer
asked_answers (Some refusal) command left files after = refused refusal ∷ []
asked_answers None command left files after = keyed_answers command (key_lines (asked_keys command) left) files after

-- the answer to words that make no command: a `play` of a file that is only read with its log is refused
abbrev pub wordless : Bool → Answer
wordless true = refused OnlyRead
wordless false = usage

abbrev pub command_answers : Bool → Option Command → List ℕ → Files → Files → List Answer
command_answers with_log None left files after = wordless with_log ∷ []
command_answers with_log (Some command) left files after = asked_answers (word_refusal command) command left files after

-- the answers to the command that the words make, or to words that make none
abbrev pub due : List (List ℕ) → List ℕ → Files → Files → List Answer
due words left files after = command_answers (plays_with_log words) (form words) left files after
