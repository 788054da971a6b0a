use Rattle.std.proofs.Common.{◌≡◌, ◌≤◌, ◌-◌, ℕ, true, false, IsTrue}
use Rattle.edge_model.specs.Files.{main_of}
use Rattle.edge_model.specs.Images.{From, LeavesOnly}
use Rattle.edge_model.specs.OnlyRead.{OnlyRead}
use Rattle.pager.specs.Pages.{is_page_number}
use Rattle.pager.specs.UnderWay.{IsReadyFor, IsUnderWay, is_touched, seen_pages}
use Rattle.atomic_commit.specs.Database.{HoldsOld}
use Rattle.atomic_commit.specs.Facts.{SameFresh}
use Rattle.atomic_commit.specs.Marks.{marked_count}
use Rattle.page_plan.specs.Planned.{planned}
use Rattle.page_plan.proofs.SoFar.{so_far}
use Rattle.page_plan.proofs.walk.write_pages.Given as goal

abbrev pub ghost-put_next : goal.ghost-put_next
ghost-put_next g a = g.start

abbrev pub decreases-loop-n : goal.decreases-loop-n
decreases-loop-n g l = l.pages - l.done

-- The pages so far are written, where the commit seals them anew.
abbrev pub invariant-loop-n : goal.invariant-loop-n
invariant-loop-n g l = record {
  seen : IsTrue g.D.Disk.tells → (n : ℕ) → is_page_number l.initial.txn.count n ≡ true
      → (seen_pages l.txn.read l.txn.write (main_of (g.D.Disk.reads l.txn.disk.now)) l.txn.count l.txn.written l.txn.changed.held).page n
      ≡ so_far
      (λ k. planned (g.P.Plan.writes l.plan) (g.P.Plan.becomes l.plan) k ((seen_pages l.initial.txn.read l.initial.txn.write (main_of (g.D.Disk.reads l.initial.txn.disk.now)) l.initial.txn.count l.initial.txn.written l.initial.txn.changed.held).page k))
      (λ k. (seen_pages l.initial.txn.read l.initial.txn.write (main_of (g.D.Disk.reads l.initial.txn.disk.now)) l.initial.txn.count l.initial.txn.written l.initial.txn.changed.held).page k)
      l.done n;
  touched : (n : ℕ) → is_page_number l.initial.txn.count n ≡ true → is_touched l.txn.written l.txn.changed.held n ≡ so_far (g.P.Plan.writes l.plan) (λ k. false) l.done n;
  ready : IsReadyFor l.txn.recorded l.txn.writer;
  under_way : IsTrue g.D.Disk.tells → IsUnderWay g.start l.txn.write l.txn.recorded l.txn.written l.txn.writer (g.D.Disk.reads l.txn.disk.now)
      (g.D.Disk.images l.txn.disk.now) g.E.Entropy.tells (g.E.Entropy.drawn l.txn.entropy.now);
  unrecorded : marked_count l.txn.recorded ≡ 0 → IsTrue g.D.Disk.tells → OnlyRead g.D.Disk.reads g.D.Disk.images g.D.Disk.moment g.D.Disk.since l.initial.txn.disk.now l.txn.disk.now;
  any_moment : IsTrue g.D.Disk.tells → LeavesOnly g.D.Disk.moment g.D.Disk.since l.initial.txn.disk.now l.txn.disk.now (HoldsOld g.start.base);
  fresh : IsTrue g.D.Disk.tells → LeavesOnly g.D.Disk.moment g.D.Disk.since l.initial.txn.disk.now l.txn.disk.now (From SameFresh (g.D.Disk.images l.initial.txn.disk.now));
  names : (l.txn.disk.ghost_name ≡ l.initial.txn.disk.ghost_name) × (l.txn.entropy.ghost_name ≡ l.initial.txn.entropy.ghost_name);
  later : (g.D.Disk.faults l.initial.txn.disk.now ≤ g.D.Disk.faults l.txn.disk.now) × (g.E.Entropy.faults l.initial.txn.entropy.now ≤ g.E.Entropy.faults l.txn.entropy.now);
  file : (l.txn.read ≡ l.initial.txn.read) × (l.txn.write ≡ l.initial.txn.write) × (l.txn.count ≡ l.initial.txn.count);
}
