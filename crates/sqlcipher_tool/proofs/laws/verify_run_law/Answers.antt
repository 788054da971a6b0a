use Rattle.sqlcipher_tool.proofs.DoneRuns.{verify_done_run}
use Rattle.sqlcipher_tool.proofs.laws.verify_run_law.Goals as goal

pub returns : goal.returns
returns c = verify_done_run
