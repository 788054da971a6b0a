use Rattle.std.proofs.Common.{◌≡◌, ◌≤◌, length, IsTrue}
use Rattle.edge_model.specs.Images.{From, LeavesOnly}
use Rattle.rollback_journal.specs.declared.stage.Stage.TheVariants.{Filling}
use Rattle.atomic_commit.specs.Batches.{HasMarked}
use Rattle.atomic_commit.specs.Database.{HoldsOld}
use Rattle.atomic_commit.specs.Facts.{HasFacts, SameFresh}
use Rattle.atomic_commit.specs.Journals.{AsLeft, records_in}
use Rattle.atomic_commit.specs.Marks.{marked_count}
use Rattle.atomic_commit.specs.Recorded.{AreRecorded}
use Rattle.atomic_commit.proofs.guarding.keep_batch.Given as goal

abbrev pub ghost-keep_marked : goal.ghost-keep_marked
ghost-keep_marked g a = g.base

abbrev pub invariant-loop-k : goal.invariant-loop-k
invariant-loop-k g l = record {
  stage : g.W.RecordWriter.stage l.writer ≡ Filling;
  small : g.W.RecordWriter.is_small l.writer;
  total : g.W.RecordWriter.total l.writer ≡ marked_count l.recorded;
  none : g.W.RecordWriter.count l.writer ≡ 0 → l.recorded ≡ l.fn.recorded;
  page_size : g.W.RecordWriter.page_size l.writer ≡ g.base.size;
  initial : g.W.RecordWriter.initial l.writer ≡ g.base.pages;
  buffer : length l.buffer ≡ length l.fn.buffer;
  faults : g.D.Disk.faults l.fn.disk ≤ g.D.Disk.faults l.disk;
  marks : HasMarked (g.N.PageNumbers.numbers l.pages) l.k l.fn.recorded l.recorded;
  recorded : IsTrue g.D.Disk.tells → AreRecorded l.recorded (records_in (g.W.RecordWriter.safe l.writer) (g.W.RecordWriter.waiting l.writer) (g.D.Disk.reads l.disk));
  facts : IsTrue g.D.Disk.tells → HasFacts g.base (g.W.RecordWriter.safe l.writer) (g.W.RecordWriter.waiting l.writer) (g.D.Disk.reads l.disk) (g.D.Disk.images l.disk);
  left : IsTrue g.D.Disk.tells → AsLeft (g.W.RecordWriter.left l.writer) (g.W.RecordWriter.beside l.writer) (g.D.Disk.reads l.disk) (g.D.Disk.images l.disk);
  main : IsTrue g.D.Disk.tells → (g.D.Disk.reads l.disk).main ≡ (g.D.Disk.reads l.fn.disk).main;
  any_moment : IsTrue g.D.Disk.tells → LeavesOnly g.D.Disk.moment g.D.Disk.since l.fn.disk l.disk (HoldsOld g.base);
  fresh : IsTrue g.D.Disk.tells → LeavesOnly g.D.Disk.moment g.D.Disk.since l.fn.disk l.disk (From SameFresh (g.D.Disk.images l.fn.disk));
}
