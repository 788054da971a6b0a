use Rattle.std.proofs.Common.{List, subst}
use Rattle.edge_model.specs.Images.{From, LeavesOnly}
use Rattle.journal_format.specs.Records.{Record}
use Rattle.edge_model.specs.Files.{contents}
use Rattle.rollback_journal.specs.Plays.{PlaysAsBeforeOrAll}
use Rattle.rollback_journal.specs.Writing.{all_records}
use Rattle.rollback_journal.proofs.WriterRuns.{then_other}
use Rattle.rollback_journal.proofs.WriterSteps.{or_all, before_or_all}
use Rattle.rollback_journal.proofs.writer.JournalWriter.open_gate.Goals as goal

pub returns-in_err-put_gate-clause-any_moment : goal.returns-in_err-put_gate-clause-any_moment
returns-in_err-put_gate-clause-any_moment g c told =
    let w = c.args.self.now in
    let records = all_records w (contents (g.D.Disk.reads c.args.disk.now).journal) in
    then_other g.met.D.Disk.counts_now (or_all w.page_size w.initial records) (before_or_all w.page_size w.initial records) (c.put_head.ensures.any_moment told)
    (subst (λ (rs : List Record). LeavesOnly g.D.Disk.moment g.D.Disk.since c.put_head.new.disk c.put_gate.new.disk (From (PlaysAsBeforeOrAll w.page_size w.initial rs) (g.D.Disk.images c.put_head.new.disk)))
    (c.in_ok-put_head.ensures.records told) (c.put_gate.ensures.any_moment told))

pub returns-clause-any_moment : goal.returns-clause-any_moment
returns-clause-any_moment g c told =
    let w = c.args.self.now in
    let records = all_records w (contents (g.D.Disk.reads c.args.disk.now).journal) in
    then_other g.met.D.Disk.counts_now (or_all w.page_size w.initial records) (before_or_all w.page_size w.initial records) (c.put_head.ensures.any_moment told)
    (subst (λ (rs : List Record). LeavesOnly g.D.Disk.moment g.D.Disk.since c.put_head.new.disk c.put_gate.new.disk (From (PlaysAsBeforeOrAll w.page_size w.initial rs) (g.D.Disk.images c.put_head.new.disk)))
    (c.in_ok-put_head.ensures.records told) (c.put_gate.ensures.any_moment told))
