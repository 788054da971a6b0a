use Rattle.std.proofs.Common.{◌≡◌, ℕ, ◌<◌, length, Option, sym, ◌∙◌, subst, arith, rules}
use Rattle.edge_model.specs.Files.{File, contents}
use Rattle.edge_model.specs.Moments.{started, and_then, then_from}
use Rattle.atomic_commit.specs.Commit.{AreChanges}
use Rattle.atomic_commit.specs.Database.{HoldsOld}
use Rattle.atomic_commit.specs.Marks.{marked_count}
use Rattle.atomic_commit.specs.Recorded.{AreRecorded}
use Rattle.atomic_commit.proofs.Batched.{batches_hold_old, batch_some, batch_recorded}
use Rattle.atomic_commit.proofs.batches.write_batch.Goals as goal

-- the conditions, by their places: sizes, marks, ready, batches, changes, buffer
pub returns-then-len-eq0-clause-any_moment : goal.returns-then-len-eq0-clause-any_moment
returns-then-len-eq0-clause-any_moment g c told =
    started g.met.D.Disk.only_now c.args.disk.now (HoldsOld g.base) (λ d here. batches_hold_old g.base _ _ _ _ _ _ _ (c.requires.1.1.1.1.1.1.0 told) d here)

pub put_batch-requires : goal.put_batch-requires
put_batch-requires g c κs lives =
    let r = c.requires.1.1.1 in
    let numbers = g.C.PageNumbers.numbers c.args.changes.now in
    let changes : AreChanges (length c.args.recorded.now) numbers = subst (λ (p : ℕ). AreChanges p numbers) (sym r.1.0) r.1.1.1.1.0 in
    let ok = c.in-Ok.ensures in
    let length_is : c.len.result ≡ length numbers = c.len.ensures in
    let some : 0 < length numbers = search (rules, c.if-len-eq0.false, length_is) in
    let marks : 0 < marked_count c.guard_batch.new.recorded = batch_some numbers c.args.recorded.now c.guard_batch.new.recorded changes some ok.marks in (
      lives.0,
      (
        lives.1.0,
        (
          lives.1.1,
          (
            (ok.ready.opened marks).0,
            (
              c.guard_batch.ensures.sizes,
              (
                r.1.1.1.1.0,
                (
                  (c.guard_batch.ensures.buffer ∙ r.1.1.1.1.1.0, r.1.1.1.1.1.1, r.1.1.1.1.1.2),
                  (
                    λ told k lt. batch_recorded numbers c.args.recorded.now c.guard_batch.new.recorded _ changes ok.marks ((ok.batches told).recorded marks) k lt,
                    (
                      λ told. (ok.batches told).facts marks,
                      λ told. (ok.batches told).journal marks,
                    ),
                  ),
                ),
              ),
            ),
          ),
        ),
      ),
    )

pub returns-in_err-put_batch-clause-any_moment : goal.returns-in_err-put_batch-clause-any_moment
returns-in_err-put_batch-clause-any_moment g c told = and_then (c.guard_batch.ensures.any_moment told) (c.put_batch.ensures.any_moment told)

pub returns-in_err-put_batch-clause-fresh : goal.returns-in_err-put_batch-clause-fresh
returns-in_err-put_batch-clause-fresh g c told = then_from g.met.D.Disk.counts_now (λ a b d ab bd. bd ∙ ab) (c.guard_batch.ensures.fresh told) (c.put_batch.ensures.fresh told)

pub returns-clause-batches : goal.returns-clause-batches
returns-clause-batches g c told =
    let r = c.requires.1.1.1 in
    let numbers = g.C.PageNumbers.numbers c.args.changes.now in
    let changes : AreChanges (length c.args.recorded.now) numbers = subst (λ (p : ℕ). AreChanges p numbers) (sym r.1.0) r.1.1.1.1.0 in
    let ok = c.in-Ok.ensures in
    let length_is : c.len.result ≡ length numbers = c.len.ensures in
    let some : 0 < length numbers = search (rules, c.if-len-eq0.false, length_is) in
    let marks : 0 < marked_count c.guard_batch.new.recorded = batch_some numbers c.args.recorded.now c.guard_batch.new.recorded changes some ok.marks in
    record {
      begun = λ none. absurd (omega (arith, none, marks));
      facts = λ more. c.in_ok-put_batch.ensures.facts told;
      journal = λ more. c.in_ok-put_batch.ensures.left told;
      recorded = λ more. subst (λ (j : Option File). AreRecorded c.guard_batch.new.recorded (g.W.RecordWriter.safe c.guard_batch.new.writer (contents j))) (sym (c.put_batch.ensures.journal told)) ((ok.batches told).recorded marks);
    }

pub returns-clause-fresh : goal.returns-clause-fresh
returns-clause-fresh g c told = then_from g.met.D.Disk.counts_now (λ a b d ab bd. bd ∙ ab) (c.guard_batch.ensures.fresh told) (c.put_batch.ensures.fresh told)
