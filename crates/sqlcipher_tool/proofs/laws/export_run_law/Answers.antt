use Rattle.sqlcipher_tool.proofs.DoneRuns.{export_done_run}
use Rattle.sqlcipher_tool.proofs.laws.export_run_law.Goals as goal

pub returns : goal.returns
returns c = export_done_run
