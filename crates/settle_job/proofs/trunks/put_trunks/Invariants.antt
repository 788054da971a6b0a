use Rattle.std.proofs.Common.{◌≡◌, ◌≤◌, ◌<◌, ℕ, true, IsTrue}
use Rattle.edge_model.specs.Files.{main_of}
use Rattle.edge_model.specs.Images.{From, LeavesOnly}
use Rattle.cipher_profile.specs.Profile.{usable}
use Rattle.pager.specs.Pages.{is_page_number}
use Rattle.pager.specs.UnderWay.{IsReadyFor, IsUnderWay, is_touched, seen_pages}
use Rattle.atomic_commit.specs.Database.{HoldsOld}
use Rattle.atomic_commit.specs.Facts.{SameFresh}
use Rattle.map_pages.specs.Maps.{map_count, map_number}
use Rattle.map_pages.specs.Trunks.{is_new_trunk, map_trunk}
use Rattle.settle_job.specs.Put.{IsNoTrunk}
use Rattle.settle_job.proofs.trunks.put_trunks.Given as goal

abbrev pub ghost-put_trunk : goal.ghost-put_trunk
ghost-put_trunk g a = g.start

-- The trunks so far are written.
abbrev pub invariant-loop-k : goal.invariant-loop-k
invariant-loop-k g l = record {
  trunks : IsTrue g.D.Disk.tells → (j : ℕ) → j < l.k → is_new_trunk (usable l.initial.txn.write.profile) j ≡ true
      → (seen_pages l.txn.read l.txn.write (main_of (g.D.Disk.reads l.txn.disk.now)) l.txn.count l.txn.written l.txn.changed.held).page (map_number (usable l.initial.txn.write.profile) j)
      ≡ map_trunk (usable l.initial.txn.write.profile) (map_count (usable l.initial.txn.write.profile) l.initial.txn.count) l.old_first j;
  others : IsTrue g.D.Disk.tells → (m : ℕ) → IsNoTrunk (usable l.initial.txn.write.profile) l.k m
      → (seen_pages l.txn.read l.txn.write (main_of (g.D.Disk.reads l.txn.disk.now)) l.txn.count l.txn.written l.txn.changed.held).page m
      ≡ (seen_pages l.initial.txn.read l.initial.txn.write (main_of (g.D.Disk.reads l.initial.txn.disk.now)) l.initial.txn.count l.initial.txn.written l.initial.txn.changed.held).page m;
  touched : (j : ℕ) → j < l.k → is_new_trunk (usable l.initial.txn.write.profile) j ≡ true → is_touched l.txn.written l.txn.changed.held (map_number (usable l.initial.txn.write.profile) j) ≡ true;
  untouched : (m : ℕ) → is_page_number l.initial.txn.count m ≡ true → IsNoTrunk (usable l.initial.txn.write.profile) l.k m
      → is_touched l.txn.written l.txn.changed.held m ≡ is_touched l.initial.txn.written l.initial.txn.changed.held m;
  ready : IsReadyFor l.txn.recorded l.txn.writer;
  under_way : IsTrue g.D.Disk.tells → IsUnderWay g.start l.txn.write l.txn.recorded l.txn.written l.txn.writer (g.D.Disk.reads l.txn.disk.now)
      (g.D.Disk.images l.txn.disk.now) g.E.Entropy.tells (g.E.Entropy.drawn l.txn.entropy.now);
  any_moment : IsTrue g.D.Disk.tells → LeavesOnly g.D.Disk.moment g.D.Disk.since l.initial.txn.disk.now l.txn.disk.now (HoldsOld g.start.base);
  fresh : IsTrue g.D.Disk.tells → LeavesOnly g.D.Disk.moment g.D.Disk.since l.initial.txn.disk.now l.txn.disk.now (From SameFresh (g.D.Disk.images l.initial.txn.disk.now));
  names : (l.txn.disk.ghost_name ≡ l.initial.txn.disk.ghost_name) × (l.txn.entropy.ghost_name ≡ l.initial.txn.entropy.ghost_name);
  later : (g.D.Disk.faults l.initial.txn.disk.now ≤ g.D.Disk.faults l.txn.disk.now) × (g.E.Entropy.faults l.initial.txn.entropy.now ≤ g.E.Entropy.faults l.txn.entropy.now);
  file : (l.txn.read ≡ l.initial.txn.read) × (l.txn.write ≡ l.initial.txn.write) × (l.txn.count ≡ l.initial.txn.count);
}
