use Rattle.rollback_journal.specs.Playing.{journal_of}
use Rattle.atomic_commit.proofs.Joined.{fresh_all, appended}
use Rattle.atomic_commit.proofs.journal.JournalWriterRecordWriter.append.Goals as goal

pub append-requires-clause-fresh : goal.append-requires-clause-fresh
append-requires-clause-fresh g c told = fresh_all c.args.self.now c.args.n (journal_of (g.D.Disk.reads c.args.disk.now)) c.requires.stage (c.requires.fresh told)

pub returns-clause-safe : goal.returns-clause-safe
returns-clause-safe g c told =
    (appended c.args.self.now c.append.new.self (journal_of (g.D.Disk.reads c.args.disk.now)) (journal_of (g.D.Disk.reads c.append.new.disk)) (record { page = c.args.n; image = c.args.image.now }) c.requires.stage
    c.in_ok-append.ensures.made (c.in_ok-append.ensures.one_more told)).0

pub returns-clause-one_more : goal.returns-clause-one_more
returns-clause-one_more g c told =
    (appended c.args.self.now c.append.new.self (journal_of (g.D.Disk.reads c.args.disk.now)) (journal_of (g.D.Disk.reads c.append.new.disk)) (record { page = c.args.n; image = c.args.image.now }) c.requires.stage
    c.in_ok-append.ensures.made (c.in_ok-append.ensures.one_more told)).1
