-- The bytes that a script draws, reply by reply.
use Rattle.std.specs.Prelude.{◌≡◌, ℕ, false, List, [], ◌∷◌, Option, Some, None}
use Rattle.cipher_profile.specs.Profile.{is_plain}
use Rattle.cipher_profile.specs.declared.profile.Profile.{Profile}
use Rattle.session_hall.specs.Draws.{HasDrawn, StepDraws}
use Rattle.session_hall.specs.Machine.{HallState}
use Rattle.session_hall.specs.Session.{Session, session_at}
use Rattle.session_play.specs.Reply.{Reply}
use Rattle.session_play.specs.Script.{step_of}
use Rattle.session_play.specs.declared.script.ScriptStep.{ScriptStep}

-- the pages of the file that a commit makes have their own of the bytes that it drew
abbrev pub MadeDraws : Profile → Session → Option (List ℕ) → List ℕ → List ℕ → Type 0
MadeDraws layout session None before after = Unit {0}
MadeDraws layout session (Some made) before after = is_plain layout ≡ false → HasDrawn session made before after

-- what the step of one reply drew, behind the bytes that were drawn before; of a commit that failed, the file that it may have left says it
abbrev pub ReplyDraws : Option ScriptStep → HallState → Reply → List ℕ → List ℕ → Type 0
ReplyDraws None old reply before after = ⊥
ReplyDraws (Some entry) old reply before after =
    let session = session_at old.sessions entry.session in
    StepDraws old.layout entry.step reply.answer session reply.after.file before after × MadeDraws old.layout session reply.made before after

-- Each step drew behind what the one before it had drawn, so that no two commits share a byte.
abbrev pub AreDrawn : Profile → HallState → List Reply → List ℕ → List ℕ → Type 0
AreDrawn layout old [] before after = after ≡ before
AreDrawn layout old (reply ∷ replies) before after =
    (mid : List ℕ) × ReplyDraws (step_of layout reply.line) old reply before mid × AreDrawn layout reply.after replies mid after
