use Rattle.std.proofs.Common.{◌≡◌, ◌++◌, ◌+◌, ◌≤◌, IsTrue}
use Rattle.std.specs.Prelude.{slice_get}
use Rattle.edge_model.specs.OnlyRead.{OnlyRead}
use Rattle.edge_model.specs.Files.{main_of}
use Rattle.sqlcipher_tool.specs.Tags.{AreKnown, refused_pages}
use Rattle.sqlcipher_tool.specs.Text.{tag_lines}
use Rattle.sqlcipher_tool.proofs.tags.check_pages.Given as goal

-- The pages so far are checked, and those that are not accepted are printed.
abbrev pub invariant-loop-done : goal.invariant-loop-done
invariant-loop-done g l = record {
  first : IsTrue g.D.Disk.tells → l.first ≡ slice_get (refused_pages l.codec (main_of (g.D.Disk.reads l.initial.disk)) l.done) 0;
  text : IsTrue g.S.Sink.tells → IsTrue g.D.Disk.tells
      → g.S.Sink.taken l.out ≡ g.S.Sink.taken l.initial.out ++ tag_lines (refused_pages l.codec (main_of (g.D.Disk.reads l.initial.disk)) l.done);
  before : l.batch.start ≤ l.done;
  bounded : l.batch.end ≤ l.batch.start + 16;
  known : IsTrue g.D.Disk.tells → AreKnown l.codec l.batch.start l.batch.end l.held (main_of (g.D.Disk.reads l.initial.disk));
  only_read : IsTrue g.D.Disk.tells → OnlyRead g.D.Disk.reads g.D.Disk.images g.D.Disk.moment g.D.Disk.since l.initial.disk l.disk;
  disk_later : g.D.Disk.faults l.initial.disk ≤ g.D.Disk.faults l.disk;
  output_later : g.S.Sink.faults l.initial.out ≤ g.S.Sink.faults l.out;
}
