-- Scripts: their lines, and the step that a line is.
--
-- | line                | step                                                       |
-- | `open S P KEY`      | session S is open, with this key                           |
-- | `share S`           | it may read from now on                                    |
-- | `read S N AT`       | it reads page N, of which the byte at AT is printed        |
-- | `reserve S`         | it may change pages from now on                            |
-- | `change S N AT BYTE`| the byte at AT of its page N becomes BYTE                  |
-- | `rekey S P KEY`     | its commit is to seal every page under this key            |
-- | `commit S`          | its changes are committed                                  |
-- | `release S`         | it drops its changes, and holds nothing                    |
-- | `stop`              | all sessions end                                           |
--
-- One space parts two words. S, N, AT and BYTE are one to ten digits, at most 4,294,967,295: S is below 16, AT is below the usable bytes of
-- a page of the profile that the script is played for, and BYTE is below 256. P names a profile whose file is not read with its log. KEY is the rest of the line, as a key line
-- of P has it; a plain profile has no key, and neither KEY nor its space is there.
use Rattle.std.specs.Prelude.{ℕ, zero, suc, ◌+◌, ◌==◌, nat_lt, Bool, List, [], ◌∷◌, take, drop, Option, Some, None, Result, Ok, Err, codes, if◌then◌else◌}
use Rattle.std.specs.List.{onto_first, position}
use Rattle.std.specs.Option.{option_map, option_and_then}
use Rattle.std.specs.Str.{bytes_eq}
use Rattle.cipher_profile.specs.KeyLine.{key_line}
use Rattle.cipher_profile.specs.Profile.{form_of, is_plain, usable}
use Rattle.profile_word.specs.Word.{named_without_log}
use Rattle.cipher_profile.specs.declared.key_line.KeyError.{KeyError}
use Rattle.cipher_profile.specs.declared.keys.Secret.{Secret}
use Rattle.cipher_profile.specs.declared.keys.Secret.TheVariants.{NoKey}
use Rattle.cipher_profile.specs.declared.profile.Profile.{Profile}
use Rattle.session_hall.specs.declared.step.Step.{Step}
use Rattle.session_hall.specs.declared.step.Step.TheVariants.{Open, Share, Read, Reserve, Change, Rekey, Commit, Release, Stop}
use Rattle.session_play.specs.declared.script.ScriptStep.{ScriptStep}
use Rattle.text_lines.specs.Numbers.{number_named}

-- the lines of a script: each ends with a line feed, which the last may lack
abbrev pub script_lines : List ℕ → List (List ℕ)
script_lines [] = []
script_lines (byte ∷ rest) = if byte == 10 then [] ∷ script_lines rest else onto_first byte (script_lines rest)

-- ---- words

abbrev pub is_space : ℕ → Bool
is_space byte = byte == 32

-- what stands before a space, and the words behind it; all of it where there is no space
abbrev pub parted : Option ℕ → List ℕ → (List ℕ → List (List ℕ)) → List (List ℕ)
parted None text more = text ∷ []
parted (Some at) text more = take at text ∷ more (drop (at + 1) text)

-- the words before the first spaces of a text, at most so many, and what stands behind them
abbrev pub line_words : ℕ → List ℕ → List (List ℕ)
line_words zero text = text ∷ []
line_words (suc count) text = parted (position is_space text) text (line_words count)

-- a number below this one
abbrev pub number_under : ℕ → ℕ → Option ℕ
number_under limit number = if nat_lt number limit then Some number else None

abbrev pub number_below : ℕ → List ℕ → Option ℕ
number_below limit word = option_and_then (number_under limit) (number_named word)

abbrev pub session_named : List ℕ → Option ℕ
session_named word = number_below 16 word

-- ---- steps

-- a step of this session, of which no byte is printed
abbrev pub step_by : ℕ → Step → ScriptStep
step_by session step = record { session = session; step = step; at = 0 }

-- the steps that name a session alone
abbrev pub lock_step : List ℕ → Option Step
lock_step name =
    if bytes_eq name (codes "share") then Some Share
    else (if bytes_eq name (codes "reserve") then Some Reserve
    else (if bytes_eq name (codes "commit") then Some Commit
    else (if bytes_eq name (codes "release") then Some Release else None)))

-- the steps that name a profile and a key
abbrev pub secret_step : List ℕ → Secret → Profile → Option Step
secret_step name secret profile =
    if bytes_eq name (codes "open") then Some (Open secret profile)
    else (if bytes_eq name (codes "rekey") then Some (Rekey secret profile) else None)

-- what stands in an answer, none in a refusal
abbrev pub secret_in : Result Secret KeyError → Option Secret
secret_in (Ok secret) = Some secret
secret_in (Err error) = None

-- `open` and `rekey` of a plain profile
abbrev pub plain_form : List ℕ → Profile → Option Step
plain_form name profile = if is_plain profile then secret_step name NoKey profile else None

-- and of another, whose key line has the form of its profile
abbrev pub key_form : List ℕ → List ℕ → Profile → Option Step
key_form name key profile =
    option_and_then (λ form. option_and_then (λ secret. secret_step name secret profile) (secret_in (key_line form key))) (form_of profile)

abbrev pub read_form : Profile → ℕ → List ℕ → List ℕ → Option ScriptStep
read_form layout session number at =
    option_and_then (λ page. option_map (λ k. record { session = session; step = Read page; at = k }) (number_below (usable layout) at)) (number_named number)

-- `change`, with its last two words
abbrev pub change_form : Profile → ℕ → List ℕ → List (List ℕ) → Option ScriptStep
change_form layout session number [] = None
change_form layout session number (at ∷ []) = None
change_form layout session number (at ∷ value ∷ []) =
    option_and_then (λ page. option_and_then (λ k. option_map (λ byte. step_by session (Change page k byte)) (number_below 256 value)) (number_below (usable layout) at)) (number_named number)
change_form layout session number (at ∷ value ∷ more ∷ rest) = None

-- the step that these words are, of which the fourth may have spaces
abbrev pub step_form : Profile → List (List ℕ) → Option ScriptStep
step_form layout [] = None
step_form layout (name ∷ []) = if bytes_eq name (codes "stop") then Some (step_by 0 Stop) else None
step_form layout (name ∷ first ∷ []) = option_and_then (λ session. option_map (step_by session) (lock_step name)) (session_named first)
step_form layout (name ∷ first ∷ second ∷ []) =
    option_and_then (λ session. option_and_then (λ profile. option_map (step_by session) (plain_form name profile)) (named_without_log second)) (session_named first)
step_form layout (name ∷ first ∷ second ∷ third ∷ []) = option_and_then (λ session.
    if bytes_eq name (codes "read") then read_form layout session second third
    else (if bytes_eq name (codes "change") then change_form layout session second (line_words 1 third)
    else option_and_then (λ profile. option_map (step_by session) (key_form name third profile)) (named_without_log second))) (session_named first)
step_form layout (name ∷ first ∷ second ∷ third ∷ fourth ∷ rest) = None

-- the step that a line is, none where it has none of the forms
unfoldable pub step_of : Profile → List ℕ → Option ScriptStep
step_of layout line = step_form layout (line_words 3 line)
