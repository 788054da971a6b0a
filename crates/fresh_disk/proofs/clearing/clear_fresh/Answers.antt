use Rattle.fresh_disk.specs.OnlyFresh.{run_joins}
use Rattle.fresh_disk.proofs.clearing.clear_fresh.Goals as goal

pub returns-then-branch-clause-any_moment : goal.returns-then-branch-clause-any_moment
returns-then-branch-clause-any_moment g c told = run_joins g.met.D.Disk.counts_now (c.has_fresh.ensures.any_moment told) (c.remove_fresh.ensures.any_moment told)
