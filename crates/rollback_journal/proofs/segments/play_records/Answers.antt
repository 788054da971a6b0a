use Rattle.std.proofs.Common.{◌+◌, length, List, ◌++◌, ◌∙◌, ap, subst, arith, refl}
use Rattle.edge_model.specs.Moments.{started_from, then_from}
use Rattle.journal_format.specs.Records.{Record}
use Rattle.journal_format.specs.Segments.{places_of}
use Rattle.rollback_journal.specs.Recovery.{KeepsRecovered}
use Rattle.rollback_journal.specs.declared.playback.Step.{Step}
use Rattle.rollback_journal.specs.declared.playback.Step.TheVariants.{End, Passed, Laid}
use Rattle.rollback_journal.specs.Playing.{journal_of, pending, GoesOn, DidAt}
use Rattle.rollback_journal.proofs.Kept.{keeps_joins, keeps_none}
use Rattle.rollback_journal.proofs.RecordSteps.{left_next, loop_goes, loop_one, todo_done, left_begun, todo_begun, goes_begun}
use Rattle.rollback_journal.proofs.segments.play_records.Goals as goal
use Rattle.rollback_journal.proofs.segments.play_records.Goals.{in-Passed, in-Laid}
use Rattle.edge_model.specs.Files.{contents, main_of}

pub loop-i-init : goal.loop-i-init
loop-i-init g c = record {
  step_is = refl;
  buffer = c.requires.buffer;
  left = omega (arith, left_begun c.args.segment.now.first c.args.segment.now.count (c.args.reading.now.page_size + 8));
  counts = c.requires.counts;
  faults = omega arith;
  journal = λ told. refl;
  in_play = λ told. c.requires.in_play told;
  goes_on = λ told rest. goes_begun c.args.reading.now.page_size _ _ c.args.count.now (main_of (g.D.Disk.reads c.args.disk.now))
      (todo_begun c.args.reading.now.page_size c.args.segment.now.nonce c.args.segment.now.first c.args.segment.now.count (journal_of (g.D.Disk.reads c.args.disk.now)) rest);
  any_moment = λ told. started_from g.met.D.Disk.only_now c.args.disk.now (KeepsRecovered c.args.reading.now.page_size) (keeps_none c.args.reading.now.page_size);
}

pub take_record-requires-clause-fits : goal.take_record-requires-clause-fits
take_record-requires-clause-fits g c told =
    let next = left_next c.loop-i.at c.args.segment.now.count c.loop-i._i (c.args.reading.now.page_size + 8) c.loop-i-test.true in
    omega (arith, next, c.loop-i.invariant.left, c.requires.bounds, (c.requires.read told).len, ap length (ap contents (c.loop-i.invariant.journal told)))

pub take_record-requires-clause-one : goal.take_record-requires-clause-one
take_record-requires-clause-one g c told =
    let among = c.requires.among told in
    loop_one c.args.reading.now.page_size c.args.segment.now.nonce c.loop-i.at c.args.segment.now.count c.loop-i._i
    (journal_of (g.D.Disk.reads c.args.disk.now)) (journal_of (g.D.Disk.reads c.loop-i.disk)) among.0 _ _ _ _ _
    c.loop-i-test.true (ap contents (c.loop-i.invariant.journal told)) (c.loop-i.invariant.goes_on told among.0) among.1

pub returns-in_err-take_record-clause-any_moment : goal.returns-in_err-take_record-clause-any_moment
returns-in_err-take_record-clause-any_moment g c told = then_from g.met.D.Disk.counts_now (keeps_joins c.args.reading.now.page_size)
    (c.loop-i.invariant.any_moment told) (c.take_record.ensures.any_moment told)

pub returns-in-End-clause-any_moment : goal.returns-in-End-clause-any_moment
returns-in-End-clause-any_moment g c told = then_from g.met.D.Disk.counts_now (keeps_joins c.args.reading.now.page_size)
    (c.loop-i.invariant.any_moment told) (c.take_record.ensures.any_moment told)

pub returns-in-End-clause-goes_on : goal.returns-in-End-clause-goes_on
returns-in-End-clause-goes_on g c told rest =
    let did : DidAt c.args.reading.now.page_size (journal_of (g.D.Disk.reads c.loop-i.disk))
    (record { nonce = c.args.segment.now.nonce; at = c.loop-i.at }) (main_of (g.D.Disk.reads c.loop-i.disk))
    (main_of (g.D.Disk.reads c.take_record.new.disk)) End =
    subst
    (λ (s : Step). DidAt c.args.reading.now.page_size (journal_of (g.D.Disk.reads c.loop-i.disk)) (record { nonce = c.args.segment.now.nonce; at = c.loop-i.at }) (main_of (g.D.Disk.reads c.loop-i.disk)) (main_of (g.D.Disk.reads c.take_record.new.disk)) s) c.in-End.is
    (c.in_ok-take_record.ensures.did told) in
    loop_goes c.args.reading.now.page_size c.args.segment.now.nonce c.loop-i.at c.args.segment.now.count c.loop-i._i
    (journal_of (g.D.Disk.reads c.args.disk.now)) (journal_of (g.D.Disk.reads c.loop-i.disk)) rest _ _ c.loop-i.count _ _ _ _ End
    c.loop-i-test.true (ap contents (c.loop-i.invariant.journal told)) (c.loop-i.invariant.goes_on told rest) did refl

pub loop-i-preserved : goal.loop-i-preserved
loop-i-preserved g c = record {
  step_is = refl;
  buffer = c.take_record.ensures.buffer ∙ c.loop-i.invariant.buffer;
  left = omega
      (arith, left_next c.loop-i.at c.args.segment.now.count c.loop-i._i (c.args.reading.now.page_size + 8) c.loop-i-test.true, c.loop-i.invariant.left);
  counts = elim c.match-branch-2.branch [ in-Passed w ↦ omega (arith, w.count-is, c.loop-i.invariant.counts) | in-Laid w ↦ omega (arith, w.count-is, c.loop-i.invariant.counts) ];
  faults = omega (arith, c.loop-i.invariant.faults, c.take_record.ensures.cause.later);
  journal = λ told. c.in_ok-take_record.ensures.journal told ∙ c.loop-i.invariant.journal told;
  in_play = λ told. c.in_ok-take_record.ensures.in_play told;
  goes_on = λ told rest. elim c.match-branch-2.branch [
    | in-Passed w ↦ loop_goes c.args.reading.now.page_size c.args.segment.now.nonce c.loop-i.at c.args.segment.now.count c.loop-i._i
        (journal_of (g.D.Disk.reads c.args.disk.now)) (journal_of (g.D.Disk.reads c.loop-i.disk)) rest _ _ c.loop-i.count _ _ _ _ Passed
        c.loop-i-test.true (ap contents (c.loop-i.invariant.journal told)) (c.loop-i.invariant.goes_on told rest)
        (subst (λ (s : Step). DidAt c.args.reading.now.page_size (journal_of (g.D.Disk.reads c.loop-i.disk)) (record { nonce = c.args.segment.now.nonce; at = c.loop-i.at }) (main_of (g.D.Disk.reads c.loop-i.disk)) (main_of (g.D.Disk.reads c.take_record.new.disk)) s) w.in-Passed.is (c.in_ok-take_record.ensures.did told)) w.count-is
    | in-Laid w ↦ loop_goes c.args.reading.now.page_size c.args.segment.now.nonce c.loop-i.at c.args.segment.now.count c.loop-i._i
        (journal_of (g.D.Disk.reads c.args.disk.now)) (journal_of (g.D.Disk.reads c.loop-i.disk)) rest _ _ c.loop-i.count _ _ _ _ Laid
        c.loop-i-test.true (ap contents (c.loop-i.invariant.journal told)) (c.loop-i.invariant.goes_on told rest)
        (subst (λ (s : Step). DidAt c.args.reading.now.page_size (journal_of (g.D.Disk.reads c.loop-i.disk)) (record { nonce = c.args.segment.now.nonce; at = c.loop-i.at }) (main_of (g.D.Disk.reads c.loop-i.disk)) (main_of (g.D.Disk.reads c.take_record.new.disk)) s) w.in-Laid.is (c.in_ok-take_record.ensures.did told)) w.count-is
  ];
  any_moment = λ told. then_from g.met.D.Disk.counts_now (keeps_joins c.args.reading.now.page_size) (c.loop-i.invariant.any_moment told)
      (c.take_record.ensures.any_moment told);
}

pub returns-clause-goes_on : goal.returns-clause-goes_on
returns-clause-goes_on g c told rest =
    subst
    (λ (l : List Record). GoesOn c.args.reading.now.page_size (pending c.args.reading.now.page_size (journal_of (g.D.Disk.reads c.args.disk.now)) (places_of c.args.segment.now.count c.args.reading.now.page_size c.args.segment.now.nonce c.args.segment.now.first ++ rest)) l
    c.args.count.now c.loop-i.count (main_of (g.D.Disk.reads c.args.disk.now)) (main_of (g.D.Disk.reads c.loop-i.disk)))
    (todo_done c.args.reading.now.page_size c.args.segment.now.nonce c.loop-i.at c.args.segment.now.count c.loop-i._i (journal_of (g.D.Disk.reads c.args.disk.now)) rest (omega (arith, c.loop-i-test.false)))
    (c.loop-i.invariant.goes_on told rest)
