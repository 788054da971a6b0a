use Rattle.std.proofs.Common.{refl}
use Rattle.std.proofs.Transfers.{starts_with_of_eq}
use Rattle.fresh_disk.specs.OnlyFresh.{only_fresh_joins, run_joins}
use Rattle.fresh_disk.proofs.pair.PairSide.side_create.Goals as goal

pub returns-clause-kept : goal.returns-clause-kept
returns-clause-kept g c = (
  refl,
  refl,
  (λ told. starts_with_of_eq _ _ refl),
  (λ told. only_fresh_joins _ (g.D.Disk.reads c.clear_fresh.new.disk) _ (c.clear_fresh.ensures.reads told) (c.create_fresh.ensures.reads told)),
  λ told. run_joins g.met.D.Disk.counts_now (c.clear_fresh.ensures.any_moment told) (c.create_fresh.ensures.any_moment told),
)
