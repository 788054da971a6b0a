use Rattle.edge_model.specs.Moments.{started}
use Rattle.atomic_commit.specs.Database.{HoldsOld}
use Rattle.atomic_commit.proofs.Recovered.{facts_hold_old}
use Rattle.atomic_commit.proofs.batches.put_page.Goals as goal

-- the conditions, by their places: stage, sizes, changes, buffer, behind_gate, facts, left
pub returns-in-Err-clause-any_moment : goal.returns-in-Err-clause-any_moment
returns-in-Err-clause-any_moment g c told = started g.met.D.Disk.only_now c.args.disk.now (HoldsOld g.base) (λ d here. facts_hold_old g.base _ _ _ _ (c.requires.1.1.1.1.1.1.1.1.0 told) d here)
