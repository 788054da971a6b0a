use Rattle.std.proofs.Common.{◌<◌, ℕ, List, length, sym, ◌∙◌, subst, arith}
use Rattle.edge_model.specs.Moments.{started, and_then, then_from}
use Rattle.journal_format.specs.Records.{Record}
use Rattle.atomic_commit.specs.Batches.{AreMarked}
use Rattle.atomic_commit.specs.Commit.{AreChanges}
use Rattle.atomic_commit.specs.Database.{HoldsOld}
use Rattle.atomic_commit.specs.Marks.{marked_count}
use Rattle.atomic_commit.specs.Recorded.{AreRecorded}
use Rattle.atomic_commit.proofs.Batched.{batches_hold_old, batch_some_unmarked, record_some, not_marked}
use Rattle.atomic_commit.proofs.guarding.guard_batch.Goals as goal

-- the conditions, by their places: sizes, marks, ready, batches, changes, buffer
pub returns-then-are_marked-clause-any_moment : goal.returns-then-are_marked-clause-any_moment
returns-then-are_marked-clause-any_moment g c told =
    started g.met.D.Disk.only_now c.args.disk.now (HoldsOld g.base) (λ d here. batches_hold_old g.base _ _ _ _ _ _ _ (c.requires.1.1.1.1.1.1.0 told) d here)

pub returns-in_err-keep_batch-clause-fresh : goal.returns-in_err-keep_batch-clause-fresh
returns-in_err-keep_batch-clause-fresh g c told = then_from g.met.D.Disk.counts_now (λ a b d ab bd. bd ∙ ab) (c.begin_segment.ensures.fresh told) (c.keep_batch.ensures.fresh told)

pub returns-in_err-open-clause-any_moment : goal.returns-in_err-open-clause-any_moment
returns-in_err-open-clause-any_moment g c told = and_then (and_then (c.begin_segment.ensures.any_moment told) (c.keep_batch.ensures.any_moment told)) (c.open.ensures.any_moment told)

pub returns-in_err-open-clause-fresh : goal.returns-in_err-open-clause-fresh
returns-in_err-open-clause-fresh g c told =
    then_from g.met.D.Disk.counts_now (λ a b d ab bd. bd ∙ ab)
    (then_from g.met.D.Disk.counts_now (λ a b d ab bd. bd ∙ ab) (c.begin_segment.ensures.fresh told) (c.keep_batch.ensures.fresh told)) (c.open.ensures.fresh told)

pub returns-clause-ready : goal.returns-clause-ready
returns-clause-ready g c =
    let r = c.requires.1.1.1 in
    let numbers = g.N.PageNumbers.numbers c.args.pages.now in
    let changes : AreChanges (length c.args.recorded.now) numbers = subst (λ (p : ℕ). AreChanges p numbers) (sym r.1.0) r.1.1.1.1.0 in
    let not_all = not_marked {A = AreMarked numbers c.args.recorded.now} c.are_marked.result c.are_marked.ensures.1 c.if-are_marked.false in
    let kept = c.in_ok-keep_batch.ensures in
    let some : 0 < marked_count c.keep_batch.new.recorded = batch_some_unmarked numbers c.args.recorded.now c.keep_batch.new.recorded changes not_all kept.marks in
    let opened = c.in_ok-open.ensures.stage in
    let records = record_some (g.W.RecordWriter.count c.keep_batch.new.writer) numbers c.args.recorded.now c.keep_batch.new.recorded kept.none not_all kept.marks in
    record {
      new = λ none. absurd (omega (arith, none, some));
      opened = λ more. (opened.0, omega (arith, opened.1, records), opened.2 ∙ kept.total, opened.3);
    }

pub returns-clause-batches : goal.returns-clause-batches
returns-clause-batches g c told =
    let r = c.requires.1.1.1 in
    let numbers = g.N.PageNumbers.numbers c.args.pages.now in
    let changes : AreChanges (length c.args.recorded.now) numbers = subst (λ (p : ℕ). AreChanges p numbers) (sym r.1.0) r.1.1.1.1.0 in
    let not_all = not_marked {A = AreMarked numbers c.args.recorded.now} c.are_marked.result c.are_marked.ensures.1 c.if-are_marked.false in
    let kept = c.in_ok-keep_batch.ensures in
    let some : 0 < marked_count c.keep_batch.new.recorded = batch_some_unmarked numbers c.args.recorded.now c.keep_batch.new.recorded changes not_all kept.marks in
    record {
      begun = λ none. absurd (omega (arith, none, some));
      facts = λ more. c.in_ok-open.ensures.facts told;
      journal = λ more. c.in_ok-open.ensures.left told;
      recorded = λ more. subst (λ (rs : List Record). AreRecorded c.keep_batch.new.recorded rs) (sym (c.in_ok-open.ensures.safe told)) (kept.recorded told);
    }

pub returns-clause-any_moment : goal.returns-clause-any_moment
returns-clause-any_moment g c told = and_then (and_then (c.begin_segment.ensures.any_moment told) (c.keep_batch.ensures.any_moment told)) (c.open.ensures.any_moment told)

pub returns-clause-fresh : goal.returns-clause-fresh
returns-clause-fresh g c told =
    then_from g.met.D.Disk.counts_now (λ a b d ab bd. bd ∙ ab)
    (then_from g.met.D.Disk.counts_now (λ a b d ab bd. bd ∙ ab) (c.begin_segment.ensures.fresh told) (c.keep_batch.ensures.fresh told)) (c.open.ensures.fresh told)
