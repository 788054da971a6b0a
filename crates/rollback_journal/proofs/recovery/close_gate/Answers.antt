use Rattle.edge_model.specs.Moments.{started_from, goes_from, goes_less}
use Rattle.rollback_journal.specs.Recovery.{KeepsRecovered}
use Rattle.rollback_journal.proofs.Kept.{keeps_none, keeps_joins}
use Rattle.rollback_journal.proofs.Closed.{gate_keeps}
use Rattle.rollback_journal.proofs.recovery.close_gate.Goals as goal

pub returns-in_err-write_at-clause-any_moment : goal.returns-in_err-write_at-clause-any_moment
returns-in_err-write_at-clause-any_moment g c told =
    goes_from g.met.D.Disk.counts_now (keeps_joins c.args.page_size)
    (λ d f here step. gate_keeps c.args.page_size (g.D.Disk.reads c.args.disk.now) d f (c.requires.settled told d here) (c.requires.laid_back told) step)
    (started_from g.met.D.Disk.only_now c.args.disk.now (KeepsRecovered c.args.page_size) (keeps_none c.args.page_size)) (c.write_at.ensures.time told)
    (c.write_at.ensures.crash told)

pub returns-clause-any_moment : goal.returns-clause-any_moment
returns-clause-any_moment g c told =
    goes_less g.met.D.Disk.counts_now
    (goes_from g.met.D.Disk.counts_now (keeps_joins c.args.page_size) (λ d f here step. gate_keeps c.args.page_size (g.D.Disk.reads c.args.disk.now) d f (c.requires.settled told d here) (c.requires.laid_back told) step)
    (started_from g.met.D.Disk.only_now c.args.disk.now (KeepsRecovered c.args.page_size) (keeps_none c.args.page_size)) (c.write_at.ensures.time told)
    (c.write_at.ensures.crash told))
    (c.sync.ensures.time told) (c.sync.ensures.crash told)

pub returns-in_err-sync-clause-any_moment : goal.returns-in_err-sync-clause-any_moment
returns-in_err-sync-clause-any_moment g c told =
    goes_less g.met.D.Disk.counts_now
    (goes_from g.met.D.Disk.counts_now (keeps_joins c.args.page_size) (λ d f here step. gate_keeps c.args.page_size (g.D.Disk.reads c.args.disk.now) d f (c.requires.settled told d here) (c.requires.laid_back told) step)
    (started_from g.met.D.Disk.only_now c.args.disk.now (KeepsRecovered c.args.page_size) (keeps_none c.args.page_size)) (c.write_at.ensures.time told)
    (c.write_at.ensures.crash told))
    (c.sync.ensures.time told) (c.sync.ensures.crash told)
