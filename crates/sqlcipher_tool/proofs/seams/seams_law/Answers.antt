use Rattle.edge_model.specs.Files.{Files}
use Rattle.sqlcipher_tool.specs.Crash.{new_held, old_held}
use Rattle.sqlcipher_tool.specs.Holding.{disk_run}
use Rattle.sqlcipher_tool.specs.Recovered.{recovered_main}
use Rattle.sqlcipher_tool.specs.Renewal.{IsNewDrawn}
use Rattle.sqlcipher_tool.proofs.Joined.{seams_hold}
use Rattle.sqlcipher_tool.proofs.seams.seams_law.Goals as goal

pub returns : goal.returns
returns g c = λ status command renewal tells drawn logs taken kept joins start.
    let z = g.Z.Disk in
    let o = g.O.Disk in
    let t = g.T.Disk in
    let files : Files = t.reads c.args.two.now in
    seams_hold status (old_held renewal files) (IsNewDrawn command renewal tells drawn (recovered_main renewal.old_profile files)) (new_held renewal) logs
    (disk_run z.reads z.images z.moment z.since c.args.zero.now c.args.zero_end.now) (disk_run o.reads o.images o.moment o.since c.args.one.now c.args.one_end.now)
    (disk_run t.reads t.images t.moment t.since c.args.two.now c.args.two_end.now) taken kept joins start
