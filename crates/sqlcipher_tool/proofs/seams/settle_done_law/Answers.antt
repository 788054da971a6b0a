use Rattle.edge_model.specs.Files.{Files}
use Rattle.sqlcipher_tool.specs.Crash.{new_held, old_held}
use Rattle.sqlcipher_tool.specs.Holding.{HoldsOnly, disk_run}
use Rattle.sqlcipher_tool.specs.Recovered.{recovered_main}
use Rattle.sqlcipher_tool.specs.Renewal.{renewed}
use Rattle.sqlcipher_tool.specs.declared.change.Change.TheVariants.{Settle as SettleBy}
use Rattle.sqlcipher_tool.proofs.SettledDone.{settle_done}
use Rattle.sqlcipher_tool.proofs.seams.settle_done_law.Goals as goal

pub returns : goal.returns
returns g c = λ profile first second frames tells drawn listed safely start laid.
    let t = g.T.Disk in
    let files : Files = t.reads c.args.two.now in
    let renewal = renewed profile (SettleBy frames) first second in
    settle_done profile first second frames tells drawn (recovered_main profile files) (HoldsOnly (old_held renewal files)) (λ file. HoldsOnly (new_held renewal file))
    (disk_run t.reads t.images t.moment t.since c.args.two.now c.args.two_end.now) listed (safely start) laid
