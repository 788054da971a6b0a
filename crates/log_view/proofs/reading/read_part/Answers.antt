use Rattle.std.proofs.Common.{rules}
use Rattle.log_view.proofs.Places.{main_part, log_part}
use Rattle.log_view.proofs.reading.read_part.Goals as goal

pub returns-then-frame-eq0-clause-filled : goal.returns-then-frame-eq0-clause-filled
returns-then-frame-eq0-clause-filled g c told i lt =
    main_part c.args.page_size c.args.at i c.frame_of-frame.result c.min-count.result c.args.table.now c.read_full.new.buffer _ (g.D.Disk.reads c.args.disk.now)
    c.requires.size.0 (search rules) lt (search rules) c.frame_of-frame.ensures c.if-frame-eq0.true (search rules)

pub returns-clause-filled : goal.returns-clause-filled
returns-clause-filled g c told i lt =
    log_part c.args.page_size c.args.at i c.frame_of-frame.result c.min-count.result c.args.table.now c.read_full-2.new.buffer _ (g.D.Disk.reads c.args.disk.now)
    c.requires.size.0 (search rules) lt (search rules) c.frame_of-frame.ensures c.if-frame-eq0.false (search rules)
