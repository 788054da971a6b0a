use Rattle.std.proofs.Common.{◌≡◌, inl, List, [], sym, ◌∙◌, subst}
use Rattle.std.proofs.lemmas.List.{append-nil}
use Rattle.edge_model.specs.Moments.{at_exit}
use Rattle.journal_format.specs.Records.{Record}
use Rattle.rollback_journal.specs.Laying.{IsGivenByte}
use Rattle.rollback_journal.specs.Playing.{journal_of}
use Rattle.atomic_commit.specs.Facts.{AreOld, HaveOneEach}
use Rattle.atomic_commit.proofs.Recovered.{facts_hold_old, old_front}
use Rattle.atomic_commit.proofs.Kept.{apart_front, facts_moved, plays_sized, both, old_run, fresh_run}
use Rattle.atomic_commit.proofs.steps.next.Goals as goal

-- the conditions, by their places: stage, small, sizes, facts, left
pub returns-in_err-next_segment-clause-any_moment : goal.returns-in_err-next_segment-clause-any_moment
returns-in_err-next_segment-clause-any_moment g c told =
    let r = c.requires.1.1 in
    old_run g.D.Disk.images g.base _ _ _ r.1.1.0.0 (λ d here. facts_hold_old g.base _ _ _ _ (r.1.1.1.0 told) d here) (c.next_segment.ensures.any_moment told)

pub returns-in_err-next_segment-clause-fresh : goal.returns-in_err-next_segment-clause-fresh
returns-in_err-next_segment-clause-fresh g c told = fresh_run g.D.Disk.images _ _ _ (λ d f step. step.recovers.fresh) (c.next_segment.ensures.any_moment told)

pub returns-clause-any_moment : goal.returns-clause-any_moment
returns-clause-any_moment g c told =
    let r = c.requires.1.1 in
    old_run g.D.Disk.images g.base _ _ _ r.1.1.0.0 (λ d here. facts_hold_old g.base _ _ _ _ (r.1.1.1.0 told) d here) (c.next_segment.ensures.any_moment told)

pub returns-clause-fresh : goal.returns-clause-fresh
returns-clause-fresh g c told = fresh_run g.D.Disk.images _ _ _ (λ d f step. step.recovers.fresh) (c.next_segment.ensures.any_moment told)

pub returns-clause-facts : goal.returns-clause-facts
returns-clause-facts g c told =
    let r = c.requires.1.1 in
    let facts = r.1.1.1.0 told in
    let left = c.in_ok-next_segment.ensures.left told in
    let safe = g.W.RecordWriter.safe c.args.writer.now (journal_of (g.D.Disk.reads c.args.disk.now)) in
    let waiting = g.W.RecordWriter.waiting c.args.writer.now (journal_of (g.D.Disk.reads c.args.disk.now)) in
    let more = g.W.RecordWriter.safe c.next_segment.new.self (journal_of (g.D.Disk.reads c.next_segment.new.disk)) in
    let next = g.W.RecordWriter.waiting c.next_segment.new.self (journal_of (g.D.Disk.reads c.next_segment.new.disk)) in
    let es : more ≡ safe = c.in_ok-next_segment.ensures.safe told in
    let ew : next ≡ [] = c.in_ok-next_segment.ensures.waiting told in
    facts_moved g.base _ _ _ _ _ _ (g.D.Disk.images c.args.disk.now) _ facts (c.next_segment.ensures.main told)
    (λ f here. let from = at_exit g.met.D.Disk.counts_now (c.next_segment.ensures.any_moment told) f here in (from.0, from.1, from.2.same.main))
    (λ i given. subst (λ (rs : List Record). IsGivenByte g.base.size rs i) (sym es) given)
    (both (AreOld g.base) more next safe [] es ew (subst (AreOld g.base) (sym (append-nil safe)) (old_front g.base safe waiting facts.old_bytes)))
    (both HaveOneEach more next safe [] es ew (subst HaveOneEach (sym (append-nil safe)) (apart_front safe waiting facts.one_each)))
    (λ f here. plays_sized _ _ g.base _ _ (c.next_segment.ensures.page_size ∙ r.1.1.0.0) (c.next_segment.ensures.initial ∙ r.1.1.0.1) (g.met.W.RecordWriter.plays_left _ _ f left.0 (left.1 f here) (inl c.in_ok-next_segment.ensures.stage.0)))
