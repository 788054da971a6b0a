-- How the program may end, as far as its words decide it. Behind them the files decide, of which nothing is said here: the adapters
-- tell no bytes.
--
-- | the words, without the program's name                           | exit status                                     |
-- | `--help`, `-h`, `help`, `FILE --help`, `--version`              | 0                                               |
-- | FILE and no command, as a misspelt one; no word at all          | 1                                               |
-- | FILE and a command that its words refuse                        | 2                                               |
-- | FILE and another command, or `play`                             | any but 1; 6 where it takes key lines or a      |
-- |                                                                 | script, 7 where it draws                        |
-- | words that can't be read: one is not UTF-8                      | 1                                               |
--
-- In the place of each of them 5 may come, where standard output failed, or 8, where memory ran out. Somebody else at the files, a
-- lock or a FILE-wal with a byte is a failed call of the disk: `run` is under way then, and ends with 4.
use Rattle.std.specs.Prelude.{◌≡◌, ◌⊎◌, ◌||◌, ℕ, Bool, true, false, List, [], ◌∷◌, drop, Some, codes}
use Rattle.std.specs.Str.{bytes_eq}
use Rattle.sqlcipher_tool.specs.Answer.{code_of}
use Rattle.sqlcipher_tool.specs.Due.{word_refusal}
use Rattle.sqlcipher_tool.specs.Play.{AreNoWords, DrawsBytes, TakesInput}
use Rattle.sqlcipher_tool.specs.Words.{form}
use Rattle.sqlcipher_tool.specs.declared.command.Command.{Command}
use Rattle.sqlcipher_tool.specs.declared.status.Refusal.{Refusal}
use Rattle.sqlcipher_tool.specs.declared.status.Status.{Status}
use Rattle.sqlcipher_tool.specs.declared.status.Status.TheVariants.{Done, Usage, Refused, OutputFault, InputFault, EntropyFault, OutOfMemory}

-- ---- what is asked for

-- the text of `--help`
abbrev pub asks_help : List (List ℕ) → Bool
asks_help [] = false
asks_help (word ∷ []) = bytes_eq word (codes "--help") || bytes_eq word (codes "-h") || bytes_eq word (codes "help")
asks_help (file ∷ word ∷ []) = bytes_eq word (codes "--help")
asks_help (file ∷ word ∷ next ∷ rest) = false

-- the text of `--version`
abbrev pub asks_version : List (List ℕ) → Bool
asks_version [] = false
asks_version (word ∷ []) = bytes_eq word (codes "--version")
asks_version (file ∷ word ∷ rest) = false

-- a text, for which no file is looked at
abbrev pub asks_text : List (List ℕ) → Bool
asks_text words = asks_help words || asks_version words

-- the words of a command stand behind FILE
abbrev pub behind_file : List (List ℕ) → List (List ℕ)
behind_file words = drop 1 words

-- ---- how it ends

-- so; or standard output failed, or memory ran out, in its place
abbrev pub EndsAs : Status → Status → Type 0
EndsAs due status = (status ≡ due) ⊎ (status ≡ OutputFault) ⊎ (status ≡ OutOfMemory)

-- how a command ends, with its words
pub record EndsCommand (words : List (List ℕ)) (status : Status) : Type 0 where
  pub usage : AreNoWords words → EndsAs Usage status
  pub refused : (command : Command) (refusal : Refusal) → form words ≡ Some command → word_refusal command ≡ Some refusal → EndsAs (Refused refusal) status
  pub no_usage : status ≡ Usage → AreNoWords words
  pub input_fault : status ≡ InputFault → TakesInput words
  pub entropy_fault : status ≡ EntropyFault → DrawsBytes words

-- how the program ends, with the words of its command line but for its own name
pub record EndsOn (words : List (List ℕ)) (status : Status) : Type 0 where
  pub text : asks_text words ≡ true → EndsAs Done status
  pub command : asks_text words ≡ false → EndsCommand (behind_file words) status

-- the exit status is the code of a status of which this holds
abbrev pub ExitsAs : (Status → Type 0) → ℕ → Type 0
ExitsAs ends code = (status : Status) × (code ≡ code_of status) × ends status
