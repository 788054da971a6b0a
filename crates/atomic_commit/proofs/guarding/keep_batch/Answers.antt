use Rattle.std.proofs.Common.{◌≡◌, ◌<◌, ℕ, length, refl, sym, ◌∙◌, subst, arith}
use Rattle.edge_model.specs.Moments.{started, started_from, and_then, then_from}
use Rattle.atomic_commit.specs.Commit.{AreChanges}
use Rattle.atomic_commit.specs.Database.{HoldsOld}
use Rattle.atomic_commit.specs.Facts.{SameFresh}
use Rattle.atomic_commit.proofs.Recovered.{facts_hold_old}
use Rattle.atomic_commit.proofs.Batched.{marked_none, marked_next}
use Rattle.atomic_commit.proofs.guarding.keep_batch.Goals as goal

-- the conditions, by their places: stage, small, sizes, marks, changes, buffer, recorded, facts, left
pub loop-k-init : goal.loop-k-init
loop-k-init g c =
    let r = c.requires.1.1.1 in
    let b = r.1.1.1.1.1.1 in
    record {
      stage = r.0.0;
      small = r.1.0;
      total = r.1.1.1.0.1;
      none = λ is. refl;
      page_size = r.1.1.0.0;
      initial = r.1.1.0.1;
      buffer = refl;
      faults = omega arith;
      marks = marked_none (g.N.PageNumbers.numbers c.args.pages.now) c.args.recorded.now;
      recorded = b.0;
      facts = b.1.0;
      left = b.1.1;
      main = λ told. refl;
      any_moment = λ told. started g.met.D.Disk.only_now c.args.disk.now (HoldsOld g.base) (λ d here. facts_hold_old g.base _ _ _ _ (b.1.0 told) d here);
      fresh = λ told. started_from g.met.D.Disk.only_now c.args.disk.now SameFresh (λ d. refl);
    }

pub returns-in_err-keep_marked-clause-fresh : goal.returns-in_err-keep_marked-clause-fresh
returns-in_err-keep_marked-clause-fresh g c told = then_from g.met.D.Disk.counts_now (λ a b d ab bd. bd ∙ ab) (c.loop-k.invariant.fresh told) (c.keep_marked.ensures.fresh told)

pub loop-k-preserved : goal.loop-k-preserved
loop-k-preserved g c =
    let r = c.requires.1.1.1 in
    let changes : AreChanges g.base.pages (g.N.PageNumbers.numbers c.args.pages.now) = r.1.1.1.1.0 in
    let inv = c.loop-k.invariant in
    let e = c.keep_marked.ensures in
    let ok = c.in_ok-keep_marked.ensures in
    let numbers = g.N.PageNumbers.numbers c.args.pages.now in
    let lt : c.loop-k.k < length numbers = omega (arith, c.loop-k-test.true, c.len-k-end.ensures) in
    let all : g.base.pages ≡ length c.loop-k.recorded = sym (inv.marks.as_many ∙ r.1.1.1.0.0) in
    record {
      stage = ok.stage.0;
      small = ok.stage.2;
      total = ok.marks.1;
      none = λ is. absurd (omega (arith, ok.stage.1, is));
      page_size = e.sizes.0;
      initial = e.sizes.1;
      buffer = e.buffer ∙ inv.buffer;
      faults = omega (arith, inv.faults, e.cause.later);
      marks = marked_next numbers c.loop-k.k c.number-n.result c.args.recorded.now c.loop-k.recorded c.keep_marked.new.recorded
          (subst (λ (p : ℕ). AreChanges p numbers) all changes) lt c.number-n.ensures ok.marks.0 inv.marks;
      recorded = ok.recorded;
      facts = ok.facts;
      left = ok.left;
      main = λ told. e.main told ∙ inv.main told;
      any_moment = λ told. and_then (inv.any_moment told) (e.any_moment told);
      fresh = λ told. then_from g.met.D.Disk.counts_now (λ a b d ab bd. bd ∙ ab) (inv.fresh told) (e.fresh told);
    }
