use Rattle.std.proofs.Common.{◌≡◌, ◌≤◌, ◌<◌, ◌+◌, ◌-◌, ◌*◌, length, IsTrue}
use Rattle.edge_model.specs.Images.{Each, LeavesOnly}
use Rattle.log_format.specs.Frames.{frame_pages}
use Rattle.log_format.specs.Logs.{chained, commit_end, committed_frames, frame_bytes_at}
use Rattle.log_recovery.specs.Laying.{log_of}
use Rattle.log_recovery.proofs.looking.find_end.Given as goal

abbrev pub invariant-loop-k : goal.invariant-loop-k
invariant-loop-k g l = record {
  buffer : length l.buffer ≡ l.header.page_size + 24;
  bound : 32 + l.k * (l.header.page_size + 24) ≤ l.len;
  fits : 32 + l.frames * (l.header.page_size + 24) ≤ l.len;
  faults : g.D.Disk.faults l.fn.disk ≤ g.D.Disk.faults l.disk;
  same : IsTrue g.D.Disk.tells → g.D.Disk.reads l.disk ≡ g.D.Disk.reads l.fn.disk;
  crash : IsTrue g.D.Disk.tells → Each (g.D.Disk.images l.disk) (g.D.Disk.images l.fn.disk);
  any_moment : IsTrue g.D.Disk.tells → LeavesOnly g.D.Disk.moment g.D.Disk.since l.fn.disk l.disk (g.D.Disk.images l.fn.disk);
  chain : IsTrue g.D.Disk.tells → l.sum ≡ chained l.header.page_size (log_of (g.D.Disk.reads l.fn.disk)) l.k;
  left : IsTrue g.D.Disk.tells →
      commit_end l.header.page_size (log_of (g.D.Disk.reads l.fn.disk)) (l.len - l.k) l.k l.frames ≡ committed_frames l.header.page_size (log_of (g.D.Disk.reads l.fn.disk));
  pages : IsTrue g.D.Disk.tells → 0 < l.frames →
      l.pages ≡ frame_pages (frame_bytes_at l.header.page_size (log_of (g.D.Disk.reads l.fn.disk)) (l.frames - 1));
}
