use Rattle.session_play.specs.Moments.{disk_told}
use Rattle.session_play.proofs.InOrder.{keeps_order}
use Rattle.session_play.proofs.laws.script_order_law.Goals as goal

pub returns : goal.returns
returns g c = keeps_order (disk_told g.D.Disk.reads g.D.Disk.images g.D.Disk.moment g.D.Disk.since) g.met.D.Disk.only_now
