use Rattle.std.proofs.Common.{◌≡◌, inr, List, [], ◌++◌, sym, ◌∙◌, subst}
use Rattle.std.proofs.lemmas.List.{append-nil}
use Rattle.edge_model.specs.Moments.{weaker, at_exit}
use Rattle.journal_format.specs.Records.{Record}
use Rattle.rollback_journal.specs.Laying.{IsGivenByte}
use Rattle.rollback_journal.specs.Playing.{journal_of}
use Rattle.atomic_commit.specs.Facts.{AreOld, HaveOneEach}
use Rattle.atomic_commit.proofs.Recovered.{facts_hold_old}
use Rattle.atomic_commit.proofs.Kept.{given_more, facts_moved, plays_sized, both, opening_holds, fresh_run}
use Rattle.atomic_commit.proofs.steps.open.Goals as goal

-- the conditions, by their places: stage, small, sizes, facts, left
pub returns-in_err-open_gate-clause-any_moment : goal.returns-in_err-open_gate-clause-any_moment
returns-in_err-open_gate-clause-any_moment g c told =
    let r = c.requires.1.1 in
    let facts = r.1.1.1.0 told in
    weaker (λ f from. opening_holds g.base _ _ _ _ _ _ from.0 f r.1.1.0.0 r.1.1.0.1 facts from.1 (facts_hold_old g.base _ _ _ _ facts from.0 from.1) from.2) (c.open_gate.ensures.any_moment told)

pub returns-in_err-open_gate-clause-fresh : goal.returns-in_err-open_gate-clause-fresh
returns-in_err-open_gate-clause-fresh g c told = fresh_run g.D.Disk.images _ _ _ (λ d f step. step.same.fresh) (c.open_gate.ensures.any_moment told)

pub returns-clause-any_moment : goal.returns-clause-any_moment
returns-clause-any_moment g c told =
    let r = c.requires.1.1 in
    let facts = r.1.1.1.0 told in
    weaker (λ f from. opening_holds g.base _ _ _ _ _ _ from.0 f r.1.1.0.0 r.1.1.0.1 facts from.1 (facts_hold_old g.base _ _ _ _ facts from.0 from.1) from.2) (c.open_gate.ensures.any_moment told)

pub returns-clause-fresh : goal.returns-clause-fresh
returns-clause-fresh g c told = fresh_run g.D.Disk.images _ _ _ (λ d f step. step.same.fresh) (c.open_gate.ensures.any_moment told)

pub returns-clause-facts : goal.returns-clause-facts
returns-clause-facts g c told =
    let r = c.requires.1.1 in
    let facts = r.1.1.1.0 told in
    let left = c.in_ok-open_gate.ensures.left told in
    let safe = g.W.RecordWriter.safe c.args.writer.now (journal_of (g.D.Disk.reads c.args.disk.now)) in
    let waiting = g.W.RecordWriter.waiting c.args.writer.now (journal_of (g.D.Disk.reads c.args.disk.now)) in
    let more = g.W.RecordWriter.safe c.open_gate.new.self (journal_of (g.D.Disk.reads c.open_gate.new.disk)) in
    let next = g.W.RecordWriter.waiting c.open_gate.new.self (journal_of (g.D.Disk.reads c.open_gate.new.disk)) in
    let es : more ≡ safe ++ waiting = c.in_ok-open_gate.ensures.safe told in
    let ew : next ≡ [] = c.in_ok-open_gate.ensures.waiting told in
    facts_moved g.base _ _ _ _ _ _ (g.D.Disk.images c.args.disk.now) _ facts (c.open_gate.ensures.main told)
    (λ f here. let from = at_exit g.met.D.Disk.counts_now (c.open_gate.ensures.any_moment told) f here in (from.0, from.1, from.2.same.main))
    (λ i given. subst (λ (rs : List Record). IsGivenByte g.base.size rs i) (sym es) (given_more g.base.size safe waiting i given))
    (both (AreOld g.base) more next (safe ++ waiting) [] es ew (subst (AreOld g.base) (sym (append-nil (safe ++ waiting))) facts.old_bytes))
    (both HaveOneEach more next (safe ++ waiting) [] es ew (subst HaveOneEach (sym (append-nil (safe ++ waiting))) facts.one_each))
    (λ f here. plays_sized _ _ g.base _ _ (c.open_gate.ensures.page_size ∙ r.1.1.0.0) (c.open_gate.ensures.initial ∙ r.1.1.0.1) (g.met.W.RecordWriter.plays_left _ _ f left.0 (left.1 f here) (inr c.in_ok-open_gate.ensures.stage.0)))
