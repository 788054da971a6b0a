use Rattle.std.proofs.Common.{refl}
use Rattle.std.proofs.Transfers.{starts_with_of_eq}
use Rattle.fresh_disk.specs.OnlyFresh.{only_fresh_joins, run_joins}
use Rattle.pager.proofs.side.PagerSide.side_create.Goals as goal

pub returns-clause-kept : goal.returns-clause-kept
returns-clause-kept g c =
    let cleared = c.clear_fresh.ensures in
    let created = c.create_fresh.ensures in (
      record {
        disk = refl;
        entropy = refl;
        drawn_on = λ told. starts_with_of_eq _ _ refl;
        only_fresh = λ told. only_fresh_joins _ (g.D.Disk.reads c.clear_fresh.new.disk) _ (cleared.reads told) (created.reads told);
        any_moment = λ told. run_joins g.met.D.Disk.counts_now (cleared.any_moment told) (created.any_moment told);
      },
      refl,
      refl,
      refl,
      refl,
      refl,
    )
