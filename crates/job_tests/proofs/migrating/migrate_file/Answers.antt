use Rattle.pager.proofs.UnreadLemmas.{no_held_pins}
use Rattle.job_tests.proofs.migrating.migrate_file.Goals as goal

pub migrate-disk-requires-clause-unpinned : goal.migrate-disk-requires-clause-unpinned
migrate-disk-requires-clause-unpinned g c = no_held_pins c.in-Ok.pager.cache.held c.in-Ok.ensures.unread.0
