use Rattle.std.proofs.Common.{inl, inr, ◌∙◌, sym, subst}
use Rattle.edge_model.specs.Files.{main_of}
use Rattle.map_pages.specs.Settled.{CanBeSettled}
use Rattle.pager.specs.Pages.{opened_pages}
use Rattle.pager.specs.Reads.{disk_then_read}
use Rattle.rekey_job.proofs.Stopped.{pages_same}
use Rattle.sqlcipher_tool.specs.Settling.{IsWalked}
use Rattle.sqlcipher_tool.proofs.CheckedPair.{both_ok, on_ok}
use Rattle.sqlcipher_tool.proofs.SettledFile.{unmarked_is, wal_is}
use Rattle.sqlcipher_tool.proofs.settling.check_pages.Goals as goal

pub returns-in-Ok-Rollback-clause-disk : goal.returns-in-Ok-Rollback-clause-disk
returns-in-Ok-Rollback-clause-disk g c = disk_then_read c.read_marks.ensures.disk c.check_walk.ensures.disk

pub returns-in-Ok-Wal-clause-disk : goal.returns-in-Ok-Wal-clause-disk
returns-in-Ok-Wal-clause-disk g c = disk_then_read c.read_marks.ensures.disk c.check_walk-in-Ok-Wal.ensures.disk

pub returns-in-Ok-Maps-clause-disk : goal.returns-in-Ok-Maps-clause-disk
returns-in-Ok-Maps-clause-disk g c = disk_then_read c.read_marks.ensures.disk c.check_maps.ensures.disk

pub returns-in-Ok-Rollback-clause-checked : goal.returns-in-Ok-Rollback-clause-checked
returns-in-Ok-Rollback-clause-checked g c =
    let d = g.D.Disk in
    let p = c.args.pager.now in
    let q = c.read_marks.new.pager in
    let file = c.read_marks.ensures.file in
    on_ok c.check_walk.result c.check_walk.ensures.walked (λ walked told.
    let same = pages_same p.codec q.codec (d.reads p.disk.now) (d.reads q.disk.now) p.count q.count file.0 (c.read_marks.ensures.disk.only_read told).stays file.2 in
    (subst IsWalked same (walked told), inl (unmarked_is ((opened_pages p.codec (main_of (d.reads p.disk.now)) p.count).page 1) (sym (c.in-Ok-Rollback.ensures.told told) ∙ c.in-Ok-Rollback.field-0-is)).0))

pub returns-in-Ok-Wal-clause-checked : goal.returns-in-Ok-Wal-clause-checked
returns-in-Ok-Wal-clause-checked g c =
    let d = g.D.Disk in
    let p = c.args.pager.now in
    let q = c.read_marks.new.pager in
    let file = c.read_marks.ensures.file in
    on_ok c.check_walk-in-Ok-Wal.result c.check_walk-in-Ok-Wal.ensures.walked (λ walked told.
    let same = pages_same p.codec q.codec (d.reads p.disk.now) (d.reads q.disk.now) p.count q.count file.0 (c.read_marks.ensures.disk.only_read told).stays file.2 in
    (subst IsWalked same (walked told), inl (wal_is ((opened_pages p.codec (main_of (d.reads p.disk.now)) p.count).page 1) (sym (c.in-Ok-Wal.ensures.told told) ∙ c.in-Ok-Wal.field-0-is))))

pub returns-in-Ok-Maps-clause-checked : goal.returns-in-Ok-Maps-clause-checked
returns-in-Ok-Maps-clause-checked g c =
    let d = g.D.Disk in
    let p = c.args.pager.now in
    let q = c.read_marks.new.pager in
    let file = c.read_marks.ensures.file in
    both_ok c.check_maps.result c.check_maps.ensures.walked c.check_maps.ensures.apart (λ walked apart told.
    let same = pages_same p.codec q.codec (d.reads p.disk.now) (d.reads q.disk.now) p.count q.count file.0 (c.read_marks.ensures.disk.only_read told).stays file.2 in
    (subst IsWalked same (walked told), inr (subst CanBeSettled same (apart told))))
