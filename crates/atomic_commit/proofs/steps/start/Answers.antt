use Rattle.std.proofs.Common.{inl, ◌∙◌}
use Rattle.edge_model.specs.Moments.{at_exit}
use Rattle.atomic_commit.proofs.Kept.{begun_old, plays_sized, facts_begun, old_run}
use Rattle.atomic_commit.proofs.steps.start.Goals as goal

pub returns-in_err-create-clause-any_moment : goal.returns-in_err-create-clause-any_moment
returns-in_err-create-clause-any_moment g c told = old_run g.D.Disk.images g.base _ _ _ c.requires.1.1.1.0.0 (λ d here. begun_old g.base _ d (c.requires.1.1.1.1 told) here) (c.create.ensures.any_moment told)

pub returns-clause-any_moment : goal.returns-clause-any_moment
returns-clause-any_moment g c told = old_run g.D.Disk.images g.base _ _ _ c.requires.1.1.1.0.0 (λ d here. begun_old g.base _ d (c.requires.1.1.1.1 told) here) (c.create.ensures.any_moment told)

pub returns-clause-facts : goal.returns-clause-facts
returns-clause-facts g c told =
    let left = c.in_ok-create.ensures.left told in
    facts_begun g.base _ _ _ (g.D.Disk.images c.args.disk.now) _ (c.requires.1.1.1.1 told) (c.in_ok-create.ensures.safe told) (c.in_ok-create.ensures.waiting told)
    (λ f here. let from = at_exit g.met.D.Disk.counts_now (c.create.ensures.any_moment told) f here in (from.0, from.1, from.2.same.main))
    (λ f here. (c.in_ok-create.ensures.names told f here).main)
    (λ f here. plays_sized _ _ g.base _ _ (c.create.ensures.page_size ∙ c.requires.1.1.1.0.0) (c.create.ensures.initial ∙ c.requires.1.1.1.0.1) (g.met.W.RecordWriter.plays_left _ _ f left.0 (left.1 f here) (inl c.in_ok-create.ensures.stage.0)))
