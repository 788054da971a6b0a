use Rattle.std.proofs.Common.{rules}
use Rattle.atomic_commit.proofs.Runs.{run_changes, run_marked}
use Rattle.atomic_commit.proofs.ahead.guard_ahead.Goals as goal

-- the conditions, by their places: pages, sizes, marks, ready, batches, buffer
pub invariant_of-pages : goal.invariant_of-pages
invariant_of-pages g c = record { within = c.requires.1.1.0.2 }

pub guard_batch-requires : goal.guard_batch-requires
guard_batch-requires g c κs within =
    let r = c.requires.1.1 in
    let b = r.1.1.1.1 in (
      within.0,
      (
        within.1,
        (
          search rules,
          (
            r.1.0,
            (
              r.1.1.0,
              (
                r.1.1.1.0,
                (
                  b.0,
                  (
                    run_changes g.base.pages c.args.first c.args.count r.0.0 r.0.1,
                    b.1,
                  ),
                ),
              ),
            ),
          ),
        ),
      ),
    )

pub returns-clause-marks : goal.returns-clause-marks
returns-clause-marks g c = run_marked c.args.first c.args.count c.args.recorded.now c.guard_batch.new.recorded c.in_ok-guard_batch.ensures.marks
