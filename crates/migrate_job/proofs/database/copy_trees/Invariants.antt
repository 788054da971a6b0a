use Rattle.std.proofs.Common.{◌≡◌, ◌≤◌, ◌+◌, ℕ, length, take}
use Rattle.std.specs.Prelude.{IsTrue}
use Rattle.cipher_profile.specs.Profile.{usable}
use Rattle.db_format.specs.Source.{no_pins}
use Rattle.edge_model.specs.Files.{bytes_of, main_of}
use Rattle.fresh_file.specs.State.{IsWellAs, fresh_pages}
use Rattle.pager.specs.Beside.{Beside}
use Rattle.pager.specs.Held.{pins_of}
use Rattle.pager.specs.Pages.{opened_pages}
use Rattle.migrate_job.specs.Copied.{AreCopied, trees_most}
use Rattle.migrate_job.specs.Copying.{FollowsBeside, beside_main}
use Rattle.migrate_job.proofs.database.copy_trees.Given as goal

-- the trees of the first rows were copied, and the pager reads what it read
abbrev pub invariant-loop-i : goal.invariant-loop-i
invariant-loop-i g l = record {
  each : length l.roots.items ≡ l.i;
  trees : (start : ℕ) → IsWellAs l.fn.state start g.D.Disk.tells g.E.Entropy.tells (bytes_of (g.D.Disk.reads l.fn.pager.disk.now).fresh) (g.E.Entropy.drawn l.fn.pager.entropy.now)
      → AreCopied (opened_pages l.fn.pager.codec (main_of (g.D.Disk.reads l.fn.pager.disk.now)) l.fn.pager.count)
      (fresh_pages l.state (bytes_of (g.D.Disk.reads l.pager.disk.now).fresh)) (fresh_pages l.fn.state (bytes_of (g.D.Disk.reads l.fn.pager.disk.now).fresh)).count
      (fresh_pages l.state (bytes_of (g.D.Disk.reads l.pager.disk.now).fresh)).count (take l.i l.rows) l.roots.items;
  few : IsTrue g.D.Disk.tells → l.state.taken ≤ l.fn.state.taken
      + trees_most (opened_pages l.fn.pager.codec (main_of (g.D.Disk.reads l.fn.pager.disk.now)) l.fn.pager.count) (usable l.fn.state.codec.profile) (take l.i l.rows);
  follows : FollowsBeside g.D.Disk.tells g.E.Entropy.tells g.D.Disk.reads g.E.Entropy.drawn g.D.Disk.faults g.E.Entropy.faults
      (beside_main l.fn.state l.fn.pager.disk.now l.fn.pager.entropy.now) (beside_main l.state l.pager.disk.now l.pager.entropy.now);
  codec : l.state.codec ≡ l.fn.state.codec;
  unpinned : pins_of l.pager.cache.held ≡ no_pins;
  beside : Beside g.D.Disk.tells g.E.Entropy.tells g.D.Disk.reads g.D.Disk.images g.D.Disk.moment g.D.Disk.since g.E.Entropy.drawn l.fn.pager.disk l.pager.disk l.fn.pager.entropy l.pager.entropy;
  file : (l.pager.codec ≡ l.fn.pager.codec) × (l.pager.header ≡ l.fn.pager.header) × (l.pager.count ≡ l.fn.pager.count);
}
