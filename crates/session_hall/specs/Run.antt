-- Runs of the machine: lists of steps.
use Rattle.std.specs.Prelude.{◌≡◌, ◌<◌, ℕ, List, [], ◌∷◌, ◌++◌, length}
use Rattle.session_hall.specs.Machine.{HallState, Steps}
use Rattle.session_hall.specs.Session.{session_at}
use Rattle.session_hall.specs.declared.lock.Lock.TheVariants.{Shared}
use Rattle.session_hall.specs.declared.step.Answer.{Answer}
use Rattle.session_hall.specs.declared.step.Step.{Step}

-- one step of a session, and its answer
pub record Turn : Type 0 where
  pub session : ℕ
  pub step : Step
  pub answer : Answer

-- these steps were answered so, one after another, each state on the way being one of these
abbrev pub RunIn : (HallState → Type 0) → HallState → List Turn → HallState → Type 0
RunIn P old [] new = P old × (new ≡ old)
RunIn P old (turn ∷ turns) new = P old × ((mid : HallState) × Steps old turn.session turn.step turn.answer mid × RunIn P mid turns new)

abbrev pub Run : HallState → List Turn → HallState → Type 0
Run old turns new = RunIn (λ s. Unit {0}) old turns new

-- session i is shared
abbrev pub IsSharing : ℕ → HallState → Type 0
IsSharing i s = (i < length s.sessions) × ((session_at s.sessions i).lock ≡ Shared)

-- while a session is shared, whatever the others do, the file stays
abbrev pub SharedFileStays : Type 0
SharedFileStays = (old new : HallState) (turns : List Turn) (i : ℕ) → RunIn (IsSharing i) old turns new → new.file ≡ old.file

-- a run goes on by one step
abbrev pub RunGoesOn : Type 0
RunGoesOn = (old mid new : HallState) (turns : List Turn) (turn : Turn) → Run old turns mid → Steps mid turn.session turn.step turn.answer new → Run old (turns ++ turn ∷ []) new
