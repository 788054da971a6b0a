use Rattle.std.proofs.Common.{◌≡◌, ◌+◌, ℕ, ap, subst, length, take, drop, arith}
use Rattle.edge_model.specs.Files.{with_file_bytes, written}
use Rattle.edge_model.specs.Moments.{weaker}
use Rattle.rollback_journal.specs.Writing.{Writing}
use Rattle.rollback_journal.proofs.WriterRuns.{ok_one, ok_two, torn_at}
use Rattle.rollback_journal.proofs.WrittenBytes.{sector_tail}
use Rattle.rollback_journal.proofs.WriterSteps.{behind_keeps, head_all, head_is_there, head_synced, head_stands}
use Rattle.rollback_journal.proofs.writer.JournalWriter.put_head.Goals as goal

pub returns-clause-stands : goal.returns-clause-stands
returns-clause-stands g c =
    let w = c.args.self.now in
    let old = g.D.Disk.reads c.args.disk.now in
    let new = g.D.Disk.reads c.put.new.disk in
    let images = g.D.Disk.images c.args.disk.now in
    let tail = take 511 (drop 1 c.first_sector-sector.result) in
    let tail_is = sector_tail w c.first_sector-sector.result c.first_sector-sector.ensures in
    let e = ap (λ (s : Writing). s.at + 1) c.self.view_is in
    ok_two c.put.result (λ done synced told.
    let is = subst (λ (k : ℕ). new.journal ≡ with_file_bytes (written k tail) old.journal) e (done told) in
    head_stands w old images c.requires.stage.0 (c.requires.stands told) tail tail_is c.requires.stage.1 new is (g.D.Disk.images c.put.new.disk)
    (λ f here. head_synced w old images c.requires.stage.0 (c.requires.stands told) tail tail_is c.requires.stage.1 new is f (torn_at (c.self.inside.at + 1) (w.at + 1) (length tail) old images e f (c.put.ensures.crash told f here)) (synced told f here)))
    c.put.ensures.done c.put.ensures.synced

pub returns-clause-headed : goal.returns-clause-headed
returns-clause-headed g c =
    let w = c.args.self.now in
    let old = g.D.Disk.reads c.args.disk.now in
    let new = g.D.Disk.reads c.put.new.disk in
    let images = g.D.Disk.images c.args.disk.now in
    let tail = take 511 (drop 1 c.first_sector-sector.result) in
    let tail_is = sector_tail w c.first_sector-sector.result c.first_sector-sector.ensures in
    let e = ap (λ (s : Writing). s.at + 1) c.self.view_is in
    ok_one c.put.result (λ done told.
    head_is_there w old images c.requires.stage.0 (c.requires.stands told) tail tail_is c.requires.stage.1 new (subst (λ (k : ℕ). new.journal ≡ with_file_bytes (written k tail) old.journal) e (done told)))
    c.put.ensures.done

pub returns-clause-whole : goal.returns-clause-whole
returns-clause-whole g c =
    let w = c.args.self.now in
    let old = g.D.Disk.reads c.args.disk.now in
    let new = g.D.Disk.reads c.put.new.disk in
    let images = g.D.Disk.images c.args.disk.now in
    let tail = take 511 (drop 1 c.first_sector-sector.result) in
    let tail_is = sector_tail w c.first_sector-sector.result c.first_sector-sector.ensures in
    let e = ap (λ (s : Writing). s.at + 1) c.self.view_is in
    ok_two c.put.result (λ done synced told f here.
    head_synced w old images c.requires.stage.0 (c.requires.stands told) tail tail_is c.requires.stage.1 new (subst (λ (k : ℕ). new.journal ≡ with_file_bytes (written k tail) old.journal) e (done told)) f
    (torn_at (c.self.inside.at + 1) (w.at + 1) (length tail) old images e f (c.put.ensures.crash told f here)) (synced told f here))
    c.put.ensures.done c.put.ensures.synced

pub returns-clause-records : goal.returns-clause-records
returns-clause-records g c =
    let w = c.args.self.now in
    let old = g.D.Disk.reads c.args.disk.now in
    let new = g.D.Disk.reads c.put.new.disk in
    let images = g.D.Disk.images c.args.disk.now in
    let tail = take 511 (drop 1 c.first_sector-sector.result) in
    let tail_is = sector_tail w c.first_sector-sector.result c.first_sector-sector.ensures in
    let e = ap (λ (s : Writing). s.at + 1) c.self.view_is in
    ok_one c.put.result (λ done told.
    head_all w old images c.requires.stage.0 (c.requires.stands told) tail tail_is c.requires.stage.1 new (subst (λ (k : ℕ). new.journal ≡ with_file_bytes (written k tail) old.journal) e (done told)))
    c.put.ensures.done

pub returns-clause-any_moment : goal.returns-clause-any_moment
returns-clause-any_moment g c told =
    let w = c.args.self.now in
    let old = g.D.Disk.reads c.args.disk.now in
    let images = g.D.Disk.images c.args.disk.now in
    let tail = take 511 (drop 1 c.first_sector-sector.result) in
    let e = ap (λ (s : Writing). s.at + 1) c.self.view_is in
    weaker (λ f from.
    let was = torn_at (c.self.inside.at + 1) (w.at + 1) (length tail) old images e f from in
    (was.0, was.1, behind_keeps w old images c.requires.stage.0 (c.requires.stands told) (w.at + 1) (length tail) was.0 f was.1 (omega arith) was.2))
    (c.put.ensures.any_moment told)
