-- What a command comes to, as an answer.
use Rattle.std.specs.Prelude.{◌≡◌, ◌⊎◌, false, ℕ, List, Option, Some, None, Result, Ok, Err}
use Rattle.sqlcipher_tool.specs.Answer.{Answer, done, refused, key_refused, is_early_refusal}
use Rattle.pager.specs.declared.opening.OpenError.{OpenError}
use Rattle.pager.specs.declared.opening.OpenError.TheVariants.{Empty as IsEmpty, Short as IsShort, KeyRefused as NoKey, HeaderFault as AtFault, WalMode as IsWal, AutoVacuum as IsVacuum, Ragged as IsRagged, TooLarge as IsLarge, DiskFault as DiskFails, OutOfMemory as MemoryEnds}
use Rattle.sqlcipher_tool.specs.declared.status.Refusal.TheVariants.{Empty, Short, HeaderFault, WalMode, AutoVacuum, Ragged, TooLarge}
use Rattle.sqlcipher_tool.specs.declared.opening.Stop.{Stop}
use Rattle.sqlcipher_tool.specs.declared.opening.Stop.TheVariants.{Refused as StopRefused, KeyRefused as StopKey, DiskFault as StopDisk, OutOfMemory as StopMemory}

-- the answer of a stop, none where the disk failed or memory ran out
abbrev pub stop_answer : Stop → Option Answer
stop_answer (StopRefused refusal) = Some (refused refusal)
stop_answer StopKey = Some key_refused
stop_answer StopDisk = None
stop_answer StopMemory = None

-- how a command stops whose file does not open
abbrev pub stop_of : OpenError → Stop
stop_of IsEmpty = StopRefused Empty
stop_of (IsShort len) = StopRefused (Short len)
stop_of NoKey = StopKey
stop_of (AtFault offset found) = StopRefused (HeaderFault offset found)
stop_of IsWal = StopRefused WalMode
stop_of IsVacuum = StopRefused AutoVacuum
stop_of (IsRagged len) = StopRefused (Ragged len)
stop_of (IsLarge pages) = StopRefused (TooLarge pages)
stop_of DiskFails = StopDisk
stop_of MemoryEnds = StopMemory

-- it is none that the words or the key line alone decide
abbrev pub IsLateStop : Stop → Type 0
IsLateStop (StopRefused refusal) = is_early_refusal refusal ≡ false
IsLateStop StopKey = Unit {0}
IsLateStop StopDisk = Unit {0}
IsLateStop StopMemory = Unit {0}

-- the answer of a report, or of the stop in its place
abbrev pub outcome_answer : Result (List ℕ) Stop → Option Answer
outcome_answer (Ok report) = Some (done report)
outcome_answer (Err stop) = stop_answer stop

-- something outside failed, or memory ran out
abbrev pub IsOutside : Stop → Type 0
IsOutside stop = (stop ≡ StopDisk) ⊎ (stop ≡ StopMemory)
