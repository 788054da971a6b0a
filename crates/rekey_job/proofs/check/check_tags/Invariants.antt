use Rattle.std.proofs.Common.{◌≡◌, ◌≤◌, ℕ, true, false, IsTrue}
use Rattle.db_format.specs.Seen.{marked}
use Rattle.edge_model.specs.Files.{main_of}
use Rattle.pager.specs.Pages.{opened_pages}
use Rattle.pager.specs.Reads.{DiskRead, Untouched}
use Rattle.rekey_job.proofs.check.check_tags.Given as goal

-- The pages so far are accepted, but for leaves.
abbrev pub invariant-loop-done : goal.invariant-loop-done
invariant-loop-done g l = record {
  accepted : IsTrue g.D.Disk.tells → (n : ℕ) → 1 ≤ n → n ≤ l.done → marked l.leaves.leaves n ≡ false
      → (opened_pages l.initial.pager.codec (main_of (g.D.Disk.reads l.initial.pager.disk.now)) l.initial.pager.count).accepts n ≡ true;
  disk : DiskRead g.D.Disk.tells g.D.Disk.reads g.D.Disk.images g.D.Disk.moment g.D.Disk.since g.D.Disk.faults l.initial.pager.disk l.pager.disk;
  entropy : Untouched l.initial.pager.entropy l.pager.entropy;
  codec : l.pager.codec ≡ l.initial.pager.codec;
  count : l.pager.count ≡ l.initial.pager.count;
}
