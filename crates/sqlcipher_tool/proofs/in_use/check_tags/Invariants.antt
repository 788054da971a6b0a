use Rattle.std.proofs.Common.{◌≡◌, ◌++◌, ◌≤◌, IsTrue, None}
use Rattle.std.specs.Prelude.{slice_get}
use Rattle.db_format.specs.Seen.{marked}
use Rattle.edge_model.specs.Files.{main_of}
use Rattle.pager.specs.Pages.{opened_pages}
use Rattle.pager.specs.Reads.{DiskRead, Untouched}
use Rattle.sqlcipher_tool.specs.Plain.{is_left}
use Rattle.sqlcipher_tool.specs.Tags.{numbers_where}
use Rattle.sqlcipher_tool.specs.Text.{tag_lines}
use Rattle.sqlcipher_tool.proofs.in_use.check_tags.Given as goal

-- The pages so far are checked, and those that are not accepted are printed.
abbrev pub invariant-loop-done : goal.invariant-loop-done
invariant-loop-done g l = record {
  first : IsTrue g.D.Disk.tells
      → l.first ≡ slice_get (numbers_where (is_left (opened_pages l.initial.pager.codec (main_of (g.D.Disk.reads l.initial.pager.disk.now)) l.initial.pager.count) (marked l.leaves.leaves)) l.done) 0;
  text : IsTrue g.S.Sink.tells → IsTrue g.D.Disk.tells
      → g.S.Sink.taken l.out ≡ g.S.Sink.taken l.initial.out
      ++ tag_lines (numbers_where (is_left (opened_pages l.initial.pager.codec (main_of (g.D.Disk.reads l.initial.pager.disk.now)) l.initial.pager.count) (marked l.leaves.leaves)) l.done);
  unprinted : l.first ≡ None → IsTrue g.S.Sink.tells → g.S.Sink.taken l.out ≡ g.S.Sink.taken l.initial.out;
  disk : DiskRead g.D.Disk.tells g.D.Disk.reads g.D.Disk.images g.D.Disk.moment g.D.Disk.since g.D.Disk.faults l.initial.pager.disk l.pager.disk;
  entropy : Untouched l.initial.pager.entropy l.pager.entropy;
  codec : l.pager.codec ≡ l.initial.pager.codec;
  count : l.pager.count ≡ l.initial.pager.count;
  output_later : g.S.Sink.faults l.initial.out ≤ g.S.Sink.faults l.out;
}
