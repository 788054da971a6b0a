use Rattle.std.proofs.Common.{rules}
use Rattle.fresh_disk.proofs.PlaceLaws.{beside}
use Rattle.make_job.specs.Written.{IsMadeWith}
use Rattle.make_job.proofs.publishing.write_beside.Goals as goal

pub returns-clause-beside : goal.returns-clause-beside
returns-clause-beside g c told =
    beside g.D.Disk.reads g.D.Disk.images (IsMadeWith c.args.codec c.args.rows) c.write_rows.new.side.disk.now _ (search rules) (c.in_ok-made.ensures.written told) (c.in_ok-made.ensures.synced told)
