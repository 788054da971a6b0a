use Rattle.std.proofs.Common.{◌≤◌, ◌<◌, Option, Some, ℕ, List, sym, ◌∙◌, ap, subst, arith, refl}
use Rattle.std.specs.Prelude.{IfSome}
use Rattle.edge_model.specs.Moments.{then_from, started_from}
use Rattle.journal_format.specs.Segments.{played}
use Rattle.rollback_journal.specs.Recovery.{KeepsRecovered}
use Rattle.rollback_journal.specs.Playing.{journal_of, pending, places_at, AreAmong, GoesOn, todo_at}
use Rattle.rollback_journal.proofs.Kept.{keeps_joins, keeps_none}
use Rattle.rollback_journal.proofs.SegmentSteps.{goes_none}
use Rattle.rollback_journal.proofs.SegmentRuns.{moved_goes}
use Rattle.rollback_journal.proofs.segments.play.Goals as goal
use Rattle.edge_model.specs.Files.{contents, main_of}

pub loop-next-init : goal.loop-next-init
loop-next-init g c = record {
  buffer = c.requires.buffer;
  within = omega arith;
  counts = omega arith;
  faults = omega arith;
  journal = λ told. refl;
  in_play = λ told. c.requires.in_play told;
  goes_on = λ told. goes_none c.args.reading.now.page_size (played c.args.reading.now.page_size (journal_of (g.D.Disk.reads c.args.disk.now))) 0
      (main_of (g.D.Disk.reads c.args.disk.now));
  any_moment = λ told. started_from g.met.D.Disk.only_now c.args.disk.now (KeepsRecovered c.args.reading.now.page_size) (keeps_none c.args.reading.now.page_size);
}

pub play_segment-requires-clause-among : goal.play_segment-requires-clause-among
play_segment-requires-clause-among g c told =
    subst
    (λ (j : List ℕ). AreAmong c.args.reading.now.page_size (pending c.args.reading.now.page_size j (places_at c.args.reading.now.page_size j c.loop-next.at)) (played c.args.reading.now.page_size j))
    (sym (ap contents (c.loop-next.invariant.journal told))) (c.loop-next.invariant.goes_on told).among

pub returns-in_err-next-clause-any_moment : goal.returns-in_err-next-clause-any_moment
returns-in_err-next-clause-any_moment g c told = then_from g.met.D.Disk.counts_now (keeps_joins c.args.reading.now.page_size)
    (c.loop-next.invariant.any_moment told) (c.play_segment.ensures.any_moment told)

pub returns-clause-any_moment : goal.returns-clause-any_moment
returns-clause-any_moment g c told = then_from g.met.D.Disk.counts_now (keeps_joins c.args.reading.now.page_size)
    (c.loop-next.invariant.any_moment told) (c.play_segment.ensures.any_moment told)

pub loop-next-preserved : goal.loop-next-preserved
loop-next-preserved g c =
    let bounds = subst
    (λ (n : Option ℕ). IfSome n (λ k. (c.loop-next.at < k) × (k ≤ c.args.reading.now.len) × (c.play_segment.new.count ≤ k))) c.in-Some.is c.in_ok-next.ensures.bounds in
    record {
      buffer = c.play_segment.ensures.buffer ∙ c.loop-next.invariant.buffer;
      within = bounds.1;
      counts = bounds.2;
      faults = omega (arith, c.loop-next.invariant.faults, c.play_segment.ensures.cause.later);
      journal = λ told. c.in_ok-next.ensures.journal told ∙ c.loop-next.invariant.journal told;
      in_play = λ told. c.in_ok-next.ensures.in_play told;
      goes_on = λ told. moved_goes c.args.reading.now.page_size c.loop-next.at (journal_of (g.D.Disk.reads c.args.disk.now))
          (journal_of (g.D.Disk.reads c.loop-next.disk)) _ _ _ _ _ _ _ (Some c.in-Some.next)
          (ap contents (c.loop-next.invariant.journal told)) (c.loop-next.invariant.goes_on told)
          (subst (λ (n : Option ℕ). GoesOn c.args.reading.now.page_size (pending c.args.reading.now.page_size (journal_of (g.D.Disk.reads c.loop-next.disk)) (places_at c.args.reading.now.page_size (journal_of (g.D.Disk.reads c.loop-next.disk)) c.loop-next.at))
          (todo_at c.args.reading.now.page_size (journal_of (g.D.Disk.reads c.loop-next.disk)) n) c.loop-next.count c.play_segment.new.count
          (main_of (g.D.Disk.reads c.loop-next.disk))
          (main_of (g.D.Disk.reads c.play_segment.new.disk))) c.in-Some.is (c.in_ok-next.ensures.goes_on told));
      any_moment = λ told. then_from g.met.D.Disk.counts_now (keeps_joins c.args.reading.now.page_size) (c.loop-next.invariant.any_moment told)
          (c.play_segment.ensures.any_moment told);
    }
