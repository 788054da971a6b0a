use Rattle.sqlcipher_tool.specs.Holding.{disk_run}
use Rattle.sqlcipher_tool.proofs.SettledTogether.{settled_together}
use Rattle.sqlcipher_tool.proofs.seams.settle_law.Goals as goal

pub returns : goal.returns
returns g c = λ profile first second frames tells drawn listed same checked done behind safely.
    let t = g.T.Disk in
    settled_together profile first second frames tells drawn (g.V.Disk.reads c.args.view.now) (g.O.Disk.reads c.args.one.now) (g.O.Disk.images c.args.one_end.now)
    (disk_run t.reads t.images t.moment t.since c.args.two.now c.args.two_end.now) listed same checked done behind (g.met.T.Disk.reads_now c.args.two.now) safely
