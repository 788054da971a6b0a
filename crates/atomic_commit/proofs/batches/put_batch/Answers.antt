use Rattle.std.proofs.Common.{◌≡◌, ℕ, ◌+◌, ◌*◌, ◌<◌, ◌≤◌, List, length, Option, refl, sym, ◌∙◌, subst, arith}
use Rattle.std.specs.Prelude.{slice_index}
use Rattle.edge_model.specs.Files.{File, contents, main_of}
use Rattle.edge_model.specs.Moments.{started, started_from, and_then, then_from}
use Rattle.rollback_journal.specs.Playing.{journal_of}
use Rattle.atomic_commit.specs.Commit.{AreChanges}
use Rattle.atomic_commit.specs.Database.{HoldsOld}
use Rattle.atomic_commit.specs.Facts.{HasRecord, SameFresh}
use Rattle.atomic_commit.proofs.Batched.{written_none, written_next}
use Rattle.atomic_commit.proofs.Changed.{changed_moved}
use Rattle.atomic_commit.proofs.Recovered.{facts_hold_old}
use Rattle.atomic_commit.proofs.batches.put_batch.Goals as goal

-- the conditions, by their places: stage, sizes, changes, buffer, behind_gate, facts, left
pub loop-k-init : goal.loop-k-init
loop-k-init g c =
    let r = c.requires.1.1.1 in
    record {
      buffer = refl;
      numbers = refl;
      seals = λ k stored. (λ is. is, λ is. is);
      size = refl;
      disk_later = omega arith;
      entropy_later = omega arith;
      facts = r.1.1.1.1.1.0;
      left = r.1.1.1.1.1.1;
      journal = λ told. refl;
      written = λ told. written_none g.base (g.C.PageNumbers.numbers c.args.changes.now) (g.C.Changes.seals c.args.changes.now) (main_of (g.D.Disk.reads c.args.disk.now));
      any_moment = λ told. started g.met.D.Disk.only_now c.args.disk.now (HoldsOld g.base) (λ d here. facts_hold_old g.base _ _ _ _ (r.1.1.1.1.1.0 told) d here);
      fresh = λ told. started_from g.met.D.Disk.only_now c.args.disk.now SameFresh (λ d. refl);
    }

pub put_page-requires : goal.put_page-requires
put_page-requires g c κs lives =
    let r = c.requires.1.1.1 in
    let inv = c.loop-k.invariant in
    let k = c.loop-k.k in
    let first = g.C.PageNumbers.numbers c.args.changes.now in
    let numbers = g.C.PageNumbers.numbers c.loop-k.changes in
    let same : numbers ≡ first = inv.numbers in
    let lt : k < length first = omega (arith, c.loop-k-test.true, c.len-k-end.ensures) in (
      lives.0,
      (
        lives.1.0,
        (
          lives.1.1,
          (
            r.0,
            (
              r.1.0,
              (
                (subst (AreChanges g.base.pages) (sym same) r.1.1.0, subst (λ (l : List ℕ). k < length l) (sym same) lt),
                (
                  (inv.buffer ∙ r.1.1.1.0.0, r.1.1.1.0.1, inv.size ∙ r.1.1.1.0.2),
                  (
                    λ told. subst (λ (l : List ℕ). HasRecord (slice_index l k) (g.W.RecordWriter.safe c.args.writer.now (journal_of (g.D.Disk.reads c.loop-k.disk)))) (sym same)
                        (subst (λ (j : Option File). HasRecord (slice_index first k) (g.W.RecordWriter.safe c.args.writer.now (contents j))) (sym (inv.journal told)) (r.1.1.1.1.0 told k lt)),
                    (
                      inv.facts,
                      inv.left,
                    ),
                  ),
                ),
              ),
            ),
          ),
        ),
      ),
    )

pub returns-in_err-put_page-clause-fresh : goal.returns-in_err-put_page-clause-fresh
returns-in_err-put_page-clause-fresh g c told = then_from g.met.D.Disk.counts_now (λ a b d ab bd. bd ∙ ab) (c.loop-k.invariant.fresh told) (c.put_page.ensures.fresh told)

pub loop-k-preserved : goal.loop-k-preserved
loop-k-preserved g c =
    let r = c.requires.1.1.1 in
    let inv = c.loop-k.invariant in
    let e = c.put_page.ensures in
    let k = c.loop-k.k in
    let first = g.C.PageNumbers.numbers c.args.changes.now in
    let seals = g.C.Changes.seals c.args.changes.now in
    let before = main_of (g.D.Disk.reads c.args.disk.now) in
    let mid = g.D.Disk.reads c.loop-k.disk in
    let lt : k < length first = omega (arith, c.loop-k-test.true, c.len-k-end.ensures) in
    record {
      buffer = e.buffer ∙ inv.buffer;
      numbers = e.numbers ∙ inv.numbers;
      seals = λ j stored. (λ is. (inv.seals j stored).0 ((e.seals j stored).0 is), λ is. (e.seals j stored).1 ((inv.seals j stored).1 is));
      size = e.size ∙ inv.size;
      disk_later = omega (arith, inv.disk_later, e.disk_later);
      entropy_later = omega (arith, inv.entropy_later, e.entropy_later);
      facts = e.facts;
      left = e.left;
      journal = λ told. e.journal told ∙ inv.journal told;
      written = λ told.
          let put = c.in_ok-put_page.ensures.written told in
          let long : g.base.pages * g.base.size ≤ length (main_of mid) = ((inv.facts told).guarded mid (g.met.D.Disk.reads_now c.loop-k.disk)).pages.long in
          let next = written_next g.base (g.C.PageNumbers.numbers c.loop-k.changes) (g.C.Changes.seals c.loop-k.changes) k before put.0 (main_of mid) _
          (subst (AreChanges g.base.pages) (sym inv.numbers) r.1.1.0) (subst (λ (l : List ℕ). k < length l) (sym inv.numbers) lt) put.2 long put.1 put.3
          (changed_moved (record g.base { start = before }) first (g.C.PageNumbers.numbers c.loop-k.changes) seals (g.C.Changes.seals c.loop-k.changes) k (main_of mid) inv.numbers (λ j stored. (inv.seals j stored).1) (inv.written told)) in
          changed_moved (record g.base { start = before }) (g.C.PageNumbers.numbers c.loop-k.changes) first (g.C.Changes.seals c.loop-k.changes) seals (k + 1) _ (sym inv.numbers) (λ j stored. (inv.seals j stored).0) next;
      any_moment = λ told. and_then (inv.any_moment told) (e.any_moment told);
      fresh = λ told. then_from g.met.D.Disk.counts_now (λ a b d ab bd. bd ∙ ab) (inv.fresh told) (e.fresh told);
    }
