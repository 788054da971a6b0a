use Rattle.std.proofs.Common.{◌≡◌, length, rules, arith}
use Rattle.salvage_scan.proofs.AheadSteps.{lent_back, read_ahead_of}
use Rattle.salvage_scan.proofs.ahead.PagesAhead.open.Goals as goal

pub returns-in-Ok-clause-ahead : goal.returns-in-Ok-clause-ahead
returns-in-Ok-clause-ahead g c told =
    let s = c.args.self.now in
    let new = c.read_ahead.new in
    let long : length new.pages ≡ s.bytes.len = search (rules, arith, c.read_ahead.auto, c.read_ahead.ensures.room, c.deref_mut.ensures) in
    let same : g.D.Disk.reads new.disk ≡ g.D.Disk.reads c.args.disk.now = (c.in-Ok.ensures.only_read told).stays in
    read_ahead_of c.args.codec.now (g.D.Disk.reads c.args.disk.now) (g.D.Disk.reads new.disk)
    (record { bytes = Rattle.std.specs.Vec.with_items s.bytes new.pages; window = new.window; last = s.last })
    new.pages same (lent_back s.bytes.len new.pages s.bytes.items long) (c.in-Ok.ensures.ahead told) (c.requires.ahead told).last

pub returns-in-Err-TagRefused-clause-ahead : goal.returns-in-Err-TagRefused-clause-ahead
returns-in-Err-TagRefused-clause-ahead g c told =
    let s = c.args.self.now in
    let new = c.read_ahead.new in
    let long : length new.pages ≡ s.bytes.len = search (rules, arith, c.read_ahead.auto, c.read_ahead.ensures.room, c.deref_mut.ensures) in
    let same : g.D.Disk.reads new.disk ≡ g.D.Disk.reads c.args.disk.now = (c.in-Err-TagRefused.ensures.only_read told).stays in
    read_ahead_of c.args.codec.now (g.D.Disk.reads c.args.disk.now) (g.D.Disk.reads new.disk)
    (record { bytes = Rattle.std.specs.Vec.with_items s.bytes new.pages; window = new.window; last = s.last })
    new.pages same (lent_back s.bytes.len new.pages s.bytes.items long) (c.in-Err-TagRefused.ensures.ahead told) (c.requires.ahead told).last

pub returns-in-Err-DiskFault-clause-ahead : goal.returns-in-Err-DiskFault-clause-ahead
returns-in-Err-DiskFault-clause-ahead g c told =
    let s = c.args.self.now in
    let new = c.read_ahead.new in
    let long : length new.pages ≡ s.bytes.len = search (rules, arith, c.read_ahead.auto, c.read_ahead.ensures.room, c.deref_mut.ensures) in
    let same : g.D.Disk.reads new.disk ≡ g.D.Disk.reads c.args.disk.now = (c.in-Err-DiskFault.ensures.only_read told).stays in
    read_ahead_of c.args.codec.now (g.D.Disk.reads c.args.disk.now) (g.D.Disk.reads new.disk)
    (record { bytes = Rattle.std.specs.Vec.with_items s.bytes new.pages; window = new.window; last = s.last })
    new.pages same (lent_back s.bytes.len new.pages s.bytes.items long) (c.in-Err-DiskFault.ensures.ahead told) (c.requires.ahead told).last
