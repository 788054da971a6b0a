use Rattle.edge_model.specs.Moments.{started}
use Rattle.atomic_commit.specs.Database.{HoldsOld}
use Rattle.atomic_commit.proofs.Batched.{batches_hold_old}
use Rattle.pager.proofs.txn.Txn.make_room.Goals as goal

-- the conditions, by their places: some, sizes, ready, under_way
pub returns-else-is_full-clause-any_moment : goal.returns-else-is_full-clause-any_moment
returns-else-is_full-clause-any_moment g c told = started g.met.D.Disk.only_now c.args.self.now.disk.now (HoldsOld g.start.base) (λ d here. batches_hold_old g.start.base _ _ _ _ _ _ _ (c.requires.1.1.1.1.1 told).batches d here)
