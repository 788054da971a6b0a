use Rattle.session_play.proofs.RunSteps.{script_is_a_run}
use Rattle.session_play.proofs.laws.script_is_a_run_law.Goals as goal

pub returns : goal.returns
returns c = script_is_a_run
