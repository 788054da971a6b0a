-- The replies of a script as a run of the machine.
use Rattle.std.specs.Prelude.{◌≡◌, List, map}
use Rattle.cipher_profile.specs.declared.profile.Profile.{Profile}
use Rattle.session_hall.specs.Machine.{HallState}
use Rattle.session_hall.specs.Run.{Run, Turn}
use Rattle.session_hall.specs.declared.step.Answer.{Answer}
use Rattle.session_play.specs.Play.{AreSteps}
use Rattle.session_play.specs.Reply.{Reply}

abbrev pub turn_answer : Turn → Answer
turn_answer turn = turn.answer

abbrev pub reply_answer : Reply → Answer
reply_answer reply = reply.answer

-- some steps of sessions are answered by the machine as these replies are
abbrev pub IsRunOf : HallState → List Reply → HallState → Type 0
IsRunOf old replies new = (turns : List Turn) × Run old turns new × (map turn_answer turns ≡ map reply_answer replies)

abbrev pub ScriptIsARun : Type 0
ScriptIsARun = (layout : Profile) (old new : HallState) (replies : List Reply) → AreSteps layout old replies new → IsRunOf old replies new
