use Rattle.std.proofs.Common.{◌≡◌, ◌≤◌, ◌+◌, ◌-◌, ◌*◌, ◌++◌, List, length, IsTrue}
use Rattle.edge_model.specs.Images.{Each, From, LeavesOnly}
use Rattle.journal_format.specs.Records.{Place}
use Rattle.journal_format.specs.Segments.{places_of}
use Rattle.rollback_journal.specs.Recovery.{KeepsRecovered}
use Rattle.rollback_journal.specs.Playing.{journal_of, IsInPlay, pending, GoesOn}
use Rattle.rollback_journal.proofs.segments.play_records.Given as goal
use Rattle.edge_model.specs.Files.{main_of}

abbrev pub invariant-loop-i : goal.invariant-loop-i
invariant-loop-i g l = record {
  step_is : l.step ≡ l.reading.page_size + 8;
  buffer : length l.buffer ≡ l.reading.page_size + 8;
  left : l.at + (l.segment.count - l._i) * (l.reading.page_size + 8) ≤ l.segment.first + l.segment.count * (l.reading.page_size + 8);
  counts : l.count ≤ l.at;
  faults : g.D.Disk.faults l.fn.disk ≤ g.D.Disk.faults l.disk;
  journal : IsTrue g.D.Disk.tells → (g.D.Disk.reads l.disk).journal ≡ (g.D.Disk.reads l.fn.disk).journal;
  in_play : IsTrue g.D.Disk.tells → Each (g.D.Disk.images l.disk) (IsInPlay l.reading.page_size (g.D.Disk.reads l.disk));
  goes_on : IsTrue g.D.Disk.tells → (rest : List Place) → GoesOn l.reading.page_size
      (pending l.reading.page_size (journal_of (g.D.Disk.reads l.fn.disk)) (places_of l.segment.count l.reading.page_size l.segment.nonce l.segment.first ++ rest))
      (pending l.reading.page_size (journal_of (g.D.Disk.reads l.fn.disk)) (places_of (l.segment.count - l._i) l.reading.page_size l.segment.nonce l.at ++ rest))
      l.fn.count l.count (main_of (g.D.Disk.reads l.fn.disk)) (main_of (g.D.Disk.reads l.disk));
  any_moment : IsTrue g.D.Disk.tells
      → LeavesOnly g.D.Disk.moment g.D.Disk.since l.fn.disk l.disk (From (KeepsRecovered l.reading.page_size) (g.D.Disk.images l.fn.disk));
}
