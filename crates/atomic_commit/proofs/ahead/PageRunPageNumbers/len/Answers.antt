use Rattle.std.proofs.Common.{sym}
use Rattle.atomic_commit.proofs.Runs.{run_length}
use Rattle.atomic_commit.proofs.ahead.PageRunPageNumbers.len.Goals as goal

pub returns : goal.returns
returns c = sym (run_length c.args.self.now.first c.args.self.now.count)
