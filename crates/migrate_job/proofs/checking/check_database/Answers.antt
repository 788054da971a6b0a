use Rattle.std.proofs.Common.{subst, sym}
use Rattle.migrate_job.specs.Stops.{IsFoundEarly}
use Rattle.migrate_job.proofs.CheckedLaws.{found_early}
use Rattle.edge_model.specs.Files.{main_of}
use Rattle.pager.specs.Pages.{opened_pages}
use Rattle.migrate_job.proofs.WalkStops.{given_stop}
use Rattle.migrate_job.proofs.checking.check_database.Goals as goal

pub walk_error-requires : goal.walk_error-requires
walk_error-requires g c = given_stop g.D.Disk.tells _ _ _ c.in-Err.error (λ s t read. read.4) c.in-Err.ensures.given

pub returns-in-Err-clause-found : goal.returns-in-Err-clause-found
returns-in-Err-clause-found g c told =
    let p = c.args.pager.now in
    let pages = opened_pages p.codec (main_of (g.D.Disk.reads p.disk.now)) p.count in
    subst (λ e. IsFoundEarly pages e) (sym c.walk_error.ensures) (found_early g.D.Disk.tells pages c.in-Err.error told (c.in-Err.ensures.found told))
