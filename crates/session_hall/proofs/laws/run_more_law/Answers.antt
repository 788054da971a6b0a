use Rattle.session_hall.proofs.Runs.{run_goes_on}
use Rattle.session_hall.proofs.laws.run_more_law.Goals as goal

pub returns : goal.returns
returns c = run_goes_on
