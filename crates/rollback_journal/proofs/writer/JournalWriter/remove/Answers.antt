use Rattle.edge_model.specs.Moments.{started_from, goes_from, goes_less}
use Rattle.rollback_journal.specs.Plays.{PlaysAsBefore}
use Rattle.rollback_journal.proofs.Beside.{as_before_none, as_before_joins}
use Rattle.rollback_journal.proofs.WriterSteps.{remove_keeps}
use Rattle.rollback_journal.proofs.writer.JournalWriter.remove.Goals as goal

pub returns-in_err-remove-clause-any_moment : goal.returns-in_err-remove-clause-any_moment
returns-in_err-remove-clause-any_moment g c told =
    let w = c.args.self.now in
    let old = g.D.Disk.reads c.args.disk.now in
    let images = g.D.Disk.images c.args.disk.now in
    let start = started_from g.met.D.Disk.only_now c.args.disk.now (PlaysAsBefore w.page_size) (as_before_none w.page_size) in
    let gone = goes_from g.met.D.Disk.counts_now (as_before_joins w.page_size) (λ d f here step. remove_keeps w old images (c.requires.stands told) c.requires.stage d f here step) start (c.remove.ensures.time told) (c.remove.ensures.crash told) in
    gone

pub returns-clause-any_moment : goal.returns-clause-any_moment
returns-clause-any_moment g c told =
    let w = c.args.self.now in
    let old = g.D.Disk.reads c.args.disk.now in
    let images = g.D.Disk.images c.args.disk.now in
    let start = started_from g.met.D.Disk.only_now c.args.disk.now (PlaysAsBefore w.page_size) (as_before_none w.page_size) in
    let gone = goes_from g.met.D.Disk.counts_now (as_before_joins w.page_size) (λ d f here step. remove_keeps w old images (c.requires.stands told) c.requires.stage d f here step) start (c.remove.ensures.time told) (c.remove.ensures.crash told) in
    goes_less g.met.D.Disk.counts_now gone (c.sync_folder.ensures.time told) (c.sync_folder.ensures.crash told)
