use Rattle.migrate_job.proofs.WalkStops.{given_stop}
use Rattle.sqlcipher_tool.proofs.names.near_in_pages.Goals as goal

pub walk_stop-requires : goal.walk_stop-requires
walk_stop-requires g c = given_stop g.D.Disk.tells _ _ _ c.in-Err.error (λ s t read. read.4) c.in-Err.ensures.given
