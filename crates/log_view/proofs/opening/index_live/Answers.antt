use Rattle.log_view.proofs.Taken.{live_taken}
use Rattle.log_view.proofs.opening.index_live.Goals as goal

pub returns-clause-taken : goal.returns-clause-taken
returns-clause-taken g c told =
    live_taken c.args.most c.args.reading.now (g.D.Disk.reads c.args.disk.now) (c.requires.taken told) (c.requires.read told) c.in_ok-table.ensures.most
    c.in_ok-table.ensures.few (c.in_ok-index.ensures.end told)
