use Rattle.std.proofs.Common.{◌≡◌, inr, ◌∙◌}
use Rattle.edge_model.specs.Files.{Files}
use Rattle.edge_model.specs.Moments.{weaker, at_exit, and_then, then_from}
use Rattle.atomic_commit.proofs.Kept.{keeps_holds, settled_holds, closing_holds, fresh_run}
use Rattle.atomic_commit.proofs.steps.close.Goals as goal

-- the conditions, by their places: stage, small, sizes, base_is, settled, pages, old, left
pub returns-in_err-close_gate-clause-any_moment : goal.returns-in_err-close_gate-clause-any_moment
returns-in_err-close_gate-clause-any_moment g c told =
    let b = c.requires.1.1.1.1 in
    weaker (λ f from. closing_holds g.base _ (g.D.Disk.reads c.args.disk.now).main from.0 f b.0.0 b.1.0 (b.1.1.0 told from.0 from.1) (b.1.1.1.0 told) (b.1.1.1.1.0 told from.0 from.1) from.2) (c.close_gate.ensures.any_moment told)

pub returns-in_err-close_gate-clause-fresh : goal.returns-in_err-close_gate-clause-fresh
returns-in_err-close_gate-clause-fresh g c told = fresh_run g.D.Disk.images _ _ _ (λ d f step. step.same.fresh) (c.close_gate.ensures.any_moment told)

pub returns-in_err-remove-clause-any_moment : goal.returns-in_err-remove-clause-any_moment
returns-in_err-remove-clause-any_moment g c told =
    let b = c.requires.1.1.1.1 in
    let main = (g.D.Disk.reads c.args.disk.now).main in
    let settled = λ (f : Files) (here : g.D.Disk.images c.close_gate.new.disk f). (let from = at_exit g.met.D.Disk.counts_now (c.close_gate.ensures.any_moment told) f here in let e : f.main ≡ main = from.2.same.main ∙ b.1.1.0 told from.0 from.1 in e) in
    and_then
    (weaker (λ f from. closing_holds g.base _ main from.0 f b.0.0 b.1.0 (b.1.1.0 told from.0 from.1) (b.1.1.1.0 told) (b.1.1.1.1.0 told from.0 from.1) from.2) (c.close_gate.ensures.any_moment told))
    (weaker (λ f from. inr (keeps_holds g.base _ _ from.0 f (c.close_gate.ensures.page_size ∙ b.0.0) from.2.recovers (settled_holds g.base main from.0 b.1.0 (settled from.0 from.1) (b.1.1.1.0 told) (c.in_ok-close_gate.ensures.cold told from.0 from.1)))) (c.remove.ensures.any_moment told))

pub returns-in_err-remove-clause-fresh : goal.returns-in_err-remove-clause-fresh
returns-in_err-remove-clause-fresh g c told =
    then_from g.met.D.Disk.counts_now (λ a b d ab bd. bd ∙ ab) (fresh_run g.D.Disk.images _ _ _ (λ d f step. step.same.fresh) (c.close_gate.ensures.any_moment told)) (fresh_run g.D.Disk.images _ _ _ (λ d f step. step.recovers.fresh) (c.remove.ensures.any_moment told))

pub returns-clause-any_moment : goal.returns-clause-any_moment
returns-clause-any_moment g c told =
    let b = c.requires.1.1.1.1 in
    let main = (g.D.Disk.reads c.args.disk.now).main in
    let settled = λ (f : Files) (here : g.D.Disk.images c.close_gate.new.disk f). (let from = at_exit g.met.D.Disk.counts_now (c.close_gate.ensures.any_moment told) f here in let e : f.main ≡ main = from.2.same.main ∙ b.1.1.0 told from.0 from.1 in e) in
    and_then
    (weaker (λ f from. closing_holds g.base _ main from.0 f b.0.0 b.1.0 (b.1.1.0 told from.0 from.1) (b.1.1.1.0 told) (b.1.1.1.1.0 told from.0 from.1) from.2) (c.close_gate.ensures.any_moment told))
    (weaker (λ f from. inr (keeps_holds g.base _ _ from.0 f (c.close_gate.ensures.page_size ∙ b.0.0) from.2.recovers (settled_holds g.base main from.0 b.1.0 (settled from.0 from.1) (b.1.1.1.0 told) (c.in_ok-close_gate.ensures.cold told from.0 from.1)))) (c.remove.ensures.any_moment told))

pub returns-clause-fresh : goal.returns-clause-fresh
returns-clause-fresh g c told =
    then_from g.met.D.Disk.counts_now (λ a b d ab bd. bd ∙ ab) (fresh_run g.D.Disk.images _ _ _ (λ d f step. step.same.fresh) (c.close_gate.ensures.any_moment told)) (fresh_run g.D.Disk.images _ _ _ (λ d f step. step.recovers.fresh) (c.remove.ensures.any_moment told))

pub returns-clause-new : goal.returns-clause-new
returns-clause-new g c told f here =
    let b = c.requires.1.1.1.1 in
    let main = (g.D.Disk.reads c.args.disk.now).main in
    let from = at_exit g.met.D.Disk.counts_now (c.remove.ensures.any_moment told) f here in
    let was = at_exit g.met.D.Disk.counts_now (c.close_gate.ensures.any_moment told) from.0 from.1 in
    let settled : from.0.main ≡ main = was.2.same.main ∙ b.1.1.0 told was.0 was.1 in
    record {
      main_is = from.2.same.main ∙ settled;
      no_journal = c.in_ok-remove.ensures.gone told f here;
      holds = keeps_holds g.base _ _ from.0 f (c.close_gate.ensures.page_size ∙ b.0.0) from.2.recovers (settled_holds g.base main from.0 b.1.0 settled (b.1.1.1.0 told) (c.in_ok-close_gate.ensures.cold told from.0 from.1));
    }
