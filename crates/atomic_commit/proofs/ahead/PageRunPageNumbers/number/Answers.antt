use Rattle.std.proofs.Common.{sym, arith}
use Rattle.atomic_commit.proofs.Runs.{run_at, run_length}
use Rattle.atomic_commit.proofs.ahead.PageRunPageNumbers.number.Goals as goal

pub overflow_cast-result : goal.overflow_cast-result
overflow_cast-result c = omega (arith, c.requires, c.args.self.now.within, run_length c.args.self.now.first c.args.self.now.count)

pub overflow_add-result : goal.overflow_add-result
overflow_add-result c = omega (arith, c.requires, c.args.self.now.within, run_length c.args.self.now.first c.args.self.now.count)

pub returns : goal.returns
returns c = sym (run_at c.args.self.now.first c.args.self.now.count c.args.k c.requires)
