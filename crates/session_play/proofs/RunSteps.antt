-- The replies of a script are a run of the machine.
use Rattle.std.proofs.Common.{◌≡◌, List, [], ◌∷◌, map, Option, Some, None, refl}
use Rattle.session_hall.specs.Machine.{HallState, Steps}
use Rattle.session_hall.specs.Run.{Turn}
use Rattle.session_hall.specs.declared.step.Answer.{Answer}
use Rattle.session_play.specs.Play.{TakesStep}
use Rattle.session_play.specs.Reply.{Reply}
use Rattle.session_play.specs.Runs.{IsRunOf, ScriptIsARun, reply_answer, turn_answer}
use Rattle.session_play.specs.Script.{step_of}
use Rattle.session_play.specs.declared.script.ScriptStep.{ScriptStep}

-- a reply is a turn of its session
reply_turn : (o : Option ScriptStep) (old : HallState) (reply : Reply) → TakesStep o old reply
    → (turn : Turn) × Steps old turn.session turn.step turn.answer reply.after × (turn.answer ≡ reply.answer)
reply_turn None old reply is = absurd is
reply_turn (Some entry) old reply is = (record { session = entry.session; step = entry.step; answer = reply.answer }, is, refl)

more : (old new : HallState) (reply : Reply) (replies : List Reply)
    → ((turn : Turn) × Steps old turn.session turn.step turn.answer reply.after × (turn.answer ≡ reply.answer)) → IsRunOf reply.after replies new
    → IsRunOf old (reply ∷ replies) new
more old new reply replies first rest =
    (first.0 ∷ rest.0, (tt, (reply.after, first.1, rest.1)), same first.0.answer reply.answer (map turn_answer rest.0) (map reply_answer replies) first.2 rest.2)
  where
    same : (a b : Answer) (xs ys : List Answer) → a ≡ b → xs ≡ ys → a ∷ xs ≡ b ∷ ys
    same a b xs ys one all = cc

pub script_is_a_run : ScriptIsARun
script_is_a_run layout old new [] follows = ([], (tt, follows), refl)
script_is_a_run layout old new (reply ∷ replies) follows =
    more old new reply replies (reply_turn (step_of layout reply.line) old reply follows.0) (script_is_a_run layout reply.after new replies follows.1)
