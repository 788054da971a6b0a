use Rattle.std.proofs.Common.{◌≡◌, ◌≤◌, ◌+◌, ◌-◌, length, IsTrue}
use Rattle.edge_model.specs.Images.{Each, From, LeavesOnly}
use Rattle.journal_format.specs.Segments.{played}
use Rattle.rollback_journal.specs.Recovery.{KeepsRecovered}
use Rattle.rollback_journal.specs.Playing.{journal_of, IsInPlay, pending, places_at, GoesOn}
use Rattle.rollback_journal.proofs.segments.play.Given as goal
use Rattle.edge_model.specs.Files.{main_of}

abbrev pub decreases-loop-next : goal.decreases-loop-next
decreases-loop-next g l = l.reading.len - l.at

abbrev pub invariant-loop-next : goal.invariant-loop-next
invariant-loop-next g l = record {
  buffer : length l.buffer ≡ l.reading.page_size + 8;
  within : l.at ≤ l.reading.len;
  counts : l.count ≤ l.at;
  faults : g.D.Disk.faults l.fn.disk ≤ g.D.Disk.faults l.disk;
  journal : IsTrue g.D.Disk.tells → (g.D.Disk.reads l.disk).journal ≡ (g.D.Disk.reads l.fn.disk).journal;
  in_play : IsTrue g.D.Disk.tells → Each (g.D.Disk.images l.disk) (IsInPlay l.reading.page_size (g.D.Disk.reads l.disk));
  goes_on : IsTrue g.D.Disk.tells → GoesOn l.reading.page_size (played l.reading.page_size (journal_of (g.D.Disk.reads l.fn.disk)))
      (pending l.reading.page_size (journal_of (g.D.Disk.reads l.fn.disk)) (places_at l.reading.page_size (journal_of (g.D.Disk.reads l.fn.disk)) l.at))
      0 l.count (main_of (g.D.Disk.reads l.fn.disk)) (main_of (g.D.Disk.reads l.disk));
  any_moment : IsTrue g.D.Disk.tells
      → LeavesOnly g.D.Disk.moment g.D.Disk.since l.fn.disk l.disk (From (KeepsRecovered l.reading.page_size) (g.D.Disk.images l.fn.disk));
}
