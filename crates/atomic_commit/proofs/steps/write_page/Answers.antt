use Rattle.std.proofs.Common.{◌≡◌, ℕ, ◌-◌, ◌*◌, length, Option, refl, sym, ◌∙◌, ap, subst}
use Rattle.edge_model.specs.Files.{File, contents}
use Rattle.edge_model.specs.Moments.{started, started_from, goes_on, goes_from}
use Rattle.rollback_journal.specs.Laying.{page_start}
use Rattle.atomic_commit.specs.Database.{HoldsOld}
use Rattle.atomic_commit.specs.Facts.{Facts, SameFresh}
use Rattle.atomic_commit.proofs.Recovered.{facts_hold_old}
use Rattle.atomic_commit.proofs.Kept.{main_fresh, facts_written}
use Rattle.atomic_commit.proofs.steps.write_page.Goals as goal

-- the conditions, by their places: stage, sizes, page, behind_gate, facts, left
pub returns-clause-facts : goal.returns-clause-facts
returns-clause-facts g c told =
    let r = c.requires.1.1 in
    let page = r.1.1.0 in
    let now = g.D.Disk.reads c.args.disk.now in
    let new = g.D.Disk.reads c.write_at.new.self in
    let others = c.write_at.ensures.others told in
    let len : ℕ = length c.args.bytes.now in
    let place : (c.args.n - 1) * len ≡ page_start g.base.size c.args.n = ap (λ (s : ℕ). (c.args.n - 1) * s) page.2 in
    subst (λ (j : Option File). Facts g.base (g.W.RecordWriter.safe c.args.writer.now (contents j)) (g.W.RecordWriter.waiting c.args.writer.now (contents j)) new (g.D.Disk.images c.write_at.new.self)) (sym others.1)
    (facts_written g.base c.args.n ((c.args.n - 1) * len) len _ _ now new (g.D.Disk.images c.args.disk.now) (g.D.Disk.images c.write_at.new.self) page.0 page.1 page.2 place (r.1.1.1.0 told) (r.1.1.1.1.0 told) others (c.write_at.ensures.crash told))

pub returns-clause-any_moment : goal.returns-clause-any_moment
returns-clause-any_moment g c told =
    let r = c.requires.1.1 in
    let page = r.1.1.0 in
    let len : ℕ = length c.args.bytes.now in
    let place : (c.args.n - 1) * len ≡ page_start g.base.size c.args.n = ap (λ (s : ℕ). (c.args.n - 1) * s) page.2 in
    goes_on (started g.met.D.Disk.only_now c.args.disk.now (HoldsOld g.base) (λ d here. facts_hold_old g.base _ _ _ _ (r.1.1.1.1.0 told) d here)) (c.write_at.ensures.time told)
    (λ f here. facts_hold_old g.base _ _ _ _ (facts_written g.base c.args.n ((c.args.n - 1) * len) len _ _ (g.D.Disk.reads c.args.disk.now) (g.D.Disk.reads c.write_at.new.self) (g.D.Disk.images c.args.disk.now) (g.D.Disk.images c.write_at.new.self)
    page.0 page.1 page.2 place (r.1.1.1.0 told) (r.1.1.1.1.0 told) (c.write_at.ensures.others told) (c.write_at.ensures.crash told)) f here)

pub returns-clause-fresh : goal.returns-clause-fresh
returns-clause-fresh g c told =
    let r = c.requires.1.1 in
    goes_from g.met.D.Disk.counts_now (λ a b d ab bd. bd ∙ ab)
    (λ d f here step. main_fresh _ _ (g.D.Disk.reads c.args.disk.now) d f (g.met.D.Disk.numbered c.args.disk.now d here) ((r.1.1.1.1.0 told).same_file d here) step)
    (started_from g.met.D.Disk.only_now c.args.disk.now SameFresh (λ d. refl)) (c.write_at.ensures.time told) (c.write_at.ensures.crash told)
