use Rattle.std.proofs.Common.{take}
use Rattle.migrate_job.specs.Copied.{AreRenamed, new_entries}
use Rattle.migrate_job.proofs.LoadLaws.{AreLoaded}
use Rattle.migrate_job.proofs.rows.push_rows.Given as goal

abbrev pub invariant-loop-i : goal.invariant-loop-i
invariant-loop-i g l =
    AreLoaded g.P.PageOut.pages g.P.PageOut.limit g.P.PageOut.faults g.P.PageOut.well g.P.PageOut.only_fresh l.fn.out l.out l.fn.loader l.loader
    (new_entries (take l.i l.rows) (take l.i l.roots)) (AreRenamed (take l.i l.rows) (take l.i l.roots))
