-- What taking a line from the bytes that are left comes to.
use Rattle.std.specs.Prelude.{◌≡◌, ◌≢◌, ◌≤◌, ◌<◌, ℕ, List, [], ◌∷◌, length, take, Result, Ok, Err}
use Rattle.session_play.specs.Script.{script_lines}
use Rattle.session_play.specs.declared.line.Ending.{Ending}
use Rattle.session_play.specs.declared.line.Ending.TheVariants.{End, More, SourceFault as EndUnknown}
use Rattle.session_play.specs.declared.line.Taken.{Taken}
use Rattle.session_play.specs.declared.line.Taken.TheVariants.{Line, NoLine, TooLong, SourceFault}
use Rattle.session_play.specs.declared.playing.PlayError.{PlayError}
use Rattle.session_play.specs.declared.playing.PlayError.TheVariants.{InputFault, TooManyLines}

-- the line in the buffer is the first, and the others are left; no line is left; the first is too long; or the source failed
abbrev pub Finds : List ℕ → List ℕ → Taken → List ℕ → Type 0
Finds left buffer (Line len) rest = script_lines left ≡ take len buffer ∷ script_lines rest
Finds left buffer NoLine rest = (left ≡ []) × (rest ≡ [])
Finds left buffer TooLong rest = (line : List ℕ) × (lines : List (List ℕ)) × (script_lines left ≡ line ∷ lines) × (1100 < length line)
Finds left buffer SourceFault rest = Unit {0}

-- a line that is taken is no longer than a line may be
abbrev pub IsShort : Taken → Type 0
IsShort (Line len) = len ≤ 1100
IsShort NoLine = Unit {0}
IsShort TooLong = Unit {0}
IsShort SourceFault = Unit {0}

-- nothing is left, or something is; or the source failed
abbrev pub IsEnding : List ℕ → Ending → List ℕ → Type 0
IsEnding left End rest = (left ≡ []) × (rest ≡ [])
IsEnding left More rest = left ≢ []
IsEnding left EndUnknown rest = Unit {0}

-- how a script ends behind the last line that it may have
abbrev pub ending_result : Ending → Result (Unit {0}) PlayError
ending_result End = Ok tt
ending_result More = Err TooManyLines
ending_result EndUnknown = Err InputFault
