use Rattle.std.proofs.Common.{Some, subst, arith, rules}
use Rattle.edge_model.specs.Moments.{then_from}
use Rattle.rollback_journal.specs.Playing.{journal_of, IsSegmentAt}
use Rattle.rollback_journal.proofs.Kept.{keeps_joins}
use Rattle.rollback_journal.proofs.ReadSteps.{only_read}
use Rattle.rollback_journal.proofs.SegmentRuns.{seg_goes, match_more, match_less}
use Rattle.rollback_journal.proofs.segments.play_segment.Goals as goal
use Rattle.edge_model.specs.Files.{main_of}

pub returns-in_err-all-clause-any_moment : goal.returns-in_err-all-clause-any_moment
returns-in_err-all-clause-any_moment g c told = then_from g.met.D.Disk.counts_now (keeps_joins c.args.reading.now.page_size)
    (only_read g.D.Disk.images c.args.reading.now.page_size (c.read_segment.ensures.any_moment told)) (c.play_records.ensures.any_moment told)

pub returns-then-not-all-clause-any_moment : goal.returns-then-not-all-clause-any_moment
returns-then-not-all-clause-any_moment g c told = then_from g.met.D.Disk.counts_now (keeps_joins c.args.reading.now.page_size)
    (only_read g.D.Disk.images c.args.reading.now.page_size (c.read_segment.ensures.any_moment told)) (c.play_records.ensures.any_moment told)

pub returns-then-segment-clause-any_moment : goal.returns-then-segment-clause-any_moment
returns-then-segment-clause-any_moment g c told = then_from g.met.D.Disk.counts_now (keeps_joins c.args.reading.now.page_size)
    (only_read g.D.Disk.images c.args.reading.now.page_size (c.read_segment.ensures.any_moment told)) (c.play_records.ensures.any_moment told)

pub returns-clause-any_moment : goal.returns-clause-any_moment
returns-clause-any_moment g c told = then_from g.met.D.Disk.counts_now (keeps_joins c.args.reading.now.page_size)
    (only_read g.D.Disk.images c.args.reading.now.page_size (c.read_segment.ensures.any_moment told)) (c.play_records.ensures.any_moment told)

pub returns-clause-goes_on : goal.returns-clause-goes_on
returns-clause-goes_on g c told =
    let old = g.D.Disk.reads c.args.disk.now in
    let read = c.requires.read told in
    let found : IsSegmentAt c.args.reading.now.page_size (journal_of old) c.args.at (Some c.in-Some.segment) = subst
    (λ (s : _). IsSegmentAt c.args.reading.now.page_size (journal_of old) c.args.at s) c.in-Some.is (c.in_ok-segment.ensures.segment told) in
    seg_goes c.args.reading.now.page_size c.args.at c.args.count.now c.play_records.new.count c.args.reading.now.sector old
    (g.D.Disk.reads c.read_segment.new.disk)
    (main_of (g.D.Disk.reads c.play_records.new.disk)) c.in-Some.segment c.in_ok-all.all c.next_boundary.result
    (c.read_segment.ensures.same told) found (c.in_ok-all.ensures.goes_on told) (search rules) c.if-segment.false read.sector
    (match_less c.next_boundary.result _ _ _ (λ past. omega (arith, past, read.len)) (match_more c.next_boundary.result _ _ _ (λ n is. is.0) c.next_boundary.ensures))
