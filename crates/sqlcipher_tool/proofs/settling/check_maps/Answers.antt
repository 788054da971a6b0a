use Rattle.std.proofs.Common.{◌∙◌, ap, sym, subst}
use Rattle.db_format.specs.Header.{header_fields}
use Rattle.db_format.specs.Pages.{Pages}
use Rattle.pager.specs.Reads.{disk_then_read}
use Rattle.rekey_job.proofs.Stopped.{pages_same}
use Rattle.sqlcipher_tool.specs.Settling.{IsWalked}
use Rattle.sqlcipher_tool.proofs.CheckedPair.{on_ok}
use Rattle.sqlcipher_tool.proofs.settling.check_maps.Goals as goal

pub returns-clause-disk : goal.returns-clause-disk
returns-clause-disk g c = disk_then_read c.census_beside.ensures.reads.0 c.check_walk.ensures.disk

pub returns-clause-walked : goal.returns-clause-walked
returns-clause-walked g c =
    let d = g.D.Disk in
    let p = c.args.pager.now in
    let q = c.census_beside.new.source in
    let reads = c.census_beside.ensures.reads in
    on_ok c.check_walk.result c.check_walk.ensures.walked (λ walked told.
    subst IsWalked (pages_same p.codec q.codec (d.reads p.disk.now) (d.reads q.disk.now) p.count q.count reads.2 (reads.0.only_read told).stays reads.4) (walked told))

pub returns-clause-apart : goal.returns-clause-apart
returns-clause-apart g c =
    on_ok c.check_walk.result c.check_walk.ensures.walked (λ walked told. (c.in-Ok.ensures.found told).1)

pub check_walk-requires-clause-header : goal.check_walk-requires-clause-header
check_walk-requires-clause-header g c = λ told some.
    let d = g.D.Disk in
    let p = c.args.pager.now in
    let q = c.census_beside.new.source in
    let reads = c.census_beside.ensures.reads in
    let same = pages_same p.codec q.codec (d.reads p.disk.now) (d.reads q.disk.now) p.count q.count reads.2 (reads.0.only_read told).stays reads.4 in
    reads.3 ∙ (c.requires.header told p.some ∙ ap (λ (pages : Pages). header_fields (pages.page 1)) (sym same))
