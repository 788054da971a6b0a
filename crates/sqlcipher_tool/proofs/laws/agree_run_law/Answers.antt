use Rattle.sqlcipher_tool.proofs.DoneRuns.{agree_done_run}
use Rattle.sqlcipher_tool.proofs.laws.agree_run_law.Goals as goal

pub returns : goal.returns
returns c = agree_done_run
