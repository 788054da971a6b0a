use Rattle.std.proofs.Common.{◌≡◌, ◌+◌, arith}
use Rattle.std.specs.Prelude.{slice_index}
use Rattle.std.specs.List.{range_with_len}
use Rattle.std.proofs.lemmas.List.FromFn.{get_or-range_with_len}
use Rattle.edge_model.specs.Moments.{started}
use Rattle.atomic_commit.specs.Database.{HoldsOld}
use Rattle.atomic_commit.proofs.Batched.{batches_hold_old, marked_some}
use Rattle.pager.proofs.BatchLemmas.{number_in}
use Rattle.page_plan.proofs.walk.keep_segment.Goals as goal

-- the conditions, by their places: number, sizes, ready, under_way
pub returns-then-not-keeps_together-clause-any_moment : goal.returns-then-not-keeps_together-clause-any_moment
returns-then-not-keeps_together-clause-any_moment g c told =
    started g.met.D.Disk.only_now c.args.txn.now.disk.now (HoldsOld g.start.base) (λ d here. batches_hold_old g.start.base _ _ _ _ _ _ _ (c.requires.1.1.1.1.1.1 told).batches d here)

-- page n has a record
pub returns-in-Ok-clause-unrecorded : goal.returns-in-Ok-clause-unrecorded
returns-in-Ok-clause-unrecorded g c = λ none.
    let t = c.args.txn.now in
    let r = c.requires.1.1.1 in
    let n = c.args.n in
    let has = c.in-Ok.ensures.recorded in
    let count = c.segment_pages-count.result in
    let first : slice_index (range_with_len n count) 0 ≡ n + 0 = get_or-range_with_len n count 0 0 c.segment_pages-count.ensures.some in
    absurd (omega (
      arith,
      none,
      marked_some (slice_index (range_with_len n count) 0) c.keep_ahead.new.self.recorded
          (omega (arith, first, (number_in t.count n r.0).0))
          (omega (arith, first, (number_in t.count n r.0).1, has.as_many, r.1.1.0.0, t.journal.1))
          (has.marked 0 c.segment_pages-count.ensures.some),
    ))
