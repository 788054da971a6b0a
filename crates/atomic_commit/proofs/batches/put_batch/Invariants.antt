use Rattle.std.proofs.Common.{◌≡◌, ◌≤◌, length, IsTrue}
use Rattle.edge_model.specs.Images.{From, LeavesOnly}
use Rattle.edge_model.specs.Files.{main_of}
use Rattle.atomic_commit.specs.Batches.{IsBatchWritten}
use Rattle.atomic_commit.specs.Commit.{SameSeals}
use Rattle.atomic_commit.specs.Database.{HoldsOld}
use Rattle.atomic_commit.specs.Facts.{HasFacts, SameFresh}
use Rattle.atomic_commit.specs.Journals.{AsLeft}
use Rattle.atomic_commit.proofs.batches.put_batch.Given as goal

abbrev pub ghost-put_page : goal.ghost-put_page
ghost-put_page g a = g.base

abbrev pub invariant-loop-k : goal.invariant-loop-k
invariant-loop-k g l = record {
  buffer : length l.buffer ≡ length l.fn.buffer;
  numbers : g.C.PageNumbers.numbers l.changes ≡ g.C.PageNumbers.numbers l.fn.changes;
  seals : SameSeals (g.C.Changes.seals l.fn.changes) (g.C.Changes.seals l.changes);
  size : g.C.Changes.size l.changes ≡ g.C.Changes.size l.fn.changes;
  disk_later : g.D.Disk.faults l.fn.disk ≤ g.D.Disk.faults l.disk;
  entropy_later : g.C.Changes.faults l.fn.changes ≤ g.C.Changes.faults l.changes;
  facts : IsTrue g.D.Disk.tells → HasFacts g.base (g.W.RecordWriter.safe l.writer) (g.W.RecordWriter.waiting l.writer) (g.D.Disk.reads l.disk) (g.D.Disk.images l.disk);
  left : IsTrue g.D.Disk.tells → AsLeft (g.W.RecordWriter.left l.writer) (g.W.RecordWriter.beside l.writer) (g.D.Disk.reads l.disk) (g.D.Disk.images l.disk);
  journal : IsTrue g.D.Disk.tells → (g.D.Disk.reads l.disk).journal ≡ (g.D.Disk.reads l.fn.disk).journal;
  written : IsTrue g.D.Disk.tells → IsBatchWritten g.base (main_of (g.D.Disk.reads l.fn.disk)) (g.C.PageNumbers.numbers l.fn.changes) (g.C.Changes.seals l.fn.changes) l.k (main_of (g.D.Disk.reads l.disk));
  any_moment : IsTrue g.D.Disk.tells → LeavesOnly g.D.Disk.moment g.D.Disk.since l.fn.disk l.disk (HoldsOld g.base);
  fresh : IsTrue g.D.Disk.tells → LeavesOnly g.D.Disk.moment g.D.Disk.since l.fn.disk l.disk (From SameFresh (g.D.Disk.images l.fn.disk));
}
