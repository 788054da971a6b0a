use Rattle.std.proofs.Common.{◌-◌, Bool, List, false, sym, subst, arith}
use Rattle.journal_format.specs.Records.{Record}
use Rattle.atomic_commit.specs.Database.{stored_page}
use Rattle.atomic_commit.specs.Journals.{records_in}
use Rattle.atomic_commit.specs.Recorded.{AreRecorded}
use Rattle.atomic_commit.proofs.Counts.{marked_room}
use Rattle.atomic_commit.proofs.RecordedPages.{recorded_next}
use Rattle.atomic_commit.proofs.recording.keep_marked.Goals as goal

-- the conditions, by their places: stage, small, sizes, marks, page, fresh, recorded, facts, left
pub keep_old-requires : goal.keep_old-requires
keep_old-requires g c κs lives =
    let r = c.requires.1.1 in
    let marks = r.1.1.1.0 in
    let page = r.1.1.1.1.0 in
    let none = r.1.1.1.1.1.0 in
    let sizes = r.1.1.0 in
    let room = marked_room c.args.recorded.now (c.args.n - 1) false (omega (arith, page.0, page.1, marks.0)) none in (
      lives.0,
      (
        lives.1,
        (
          r.0,
          (
            r.1.0,
            (
              omega (arith, room, marks.0, marks.1, sizes.1),
              (
                sizes,
                (
                  page,
                  (
                    λ told. (r.1.1.1.1.1.1.0 told).have_none c.args.n page.0 (omega (arith, page.1, marks.0)) none,
                    (
                      r.1.1.1.1.1.1.1.0,
                      r.1.1.1.1.1.1.1.1,
                    ),
                  ),
                ),
              ),
            ),
          ),
        ),
      ),
    )

pub returns-clause-recorded : goal.returns-clause-recorded
returns-clause-recorded g c told =
    let r = c.requires.1.1 in
    let page = r.1.1.1.1.0 in
    let marks = r.1.1.1.0 in
    let entry : Record = record { page = c.args.n; image = stored_page g.base.size c.args.n g.base.start } in
    subst (λ (m : List Bool). AreRecorded m (records_in (g.W.RecordWriter.safe c.keep_old.new.writer) (g.W.RecordWriter.waiting c.keep_old.new.writer) (g.D.Disk.reads c.keep_old.new.disk))) (sym c.put.ensures.marks)
    (recorded_next c.args.recorded.now _ _ entry (c.in_ok-keep_old.ensures.one_more told) page.0 (omega (arith, page.1, marks.0)) (r.1.1.1.1.1.1.0 told))
