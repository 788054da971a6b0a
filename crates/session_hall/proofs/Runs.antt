-- A run goes on by one step.
use Rattle.std.proofs.Common.{List, [], ◌∷◌, ◌++◌, refl, subst}
use Rattle.session_hall.specs.Machine.{HallState, Steps}
use Rattle.session_hall.specs.Run.{RunGoesOn, RunIn, Turn}

pub run_more : (P : HallState → Type 0) (old mid new : HallState) (turns : List Turn) (turn : Turn) → RunIn P old turns mid → Steps mid turn.session turn.step turn.answer new → P new
    → RunIn P old (turns ++ turn ∷ []) new
run_more P old mid new [] turn run step here = (run.0, (new, subst (λ (s : HallState). Steps s turn.session turn.step turn.answer new) run.1 step, (here, refl)))
run_more P old mid new (first ∷ turns) turn run step here = (run.0, (run.1.0, run.1.1, run_more P run.1.0 mid new turns turn run.1.2 step here))

pub run_goes_on : RunGoesOn
run_goes_on old mid new turns turn run step = run_more (λ s. Unit {0}) old mid new turns turn run step tt
