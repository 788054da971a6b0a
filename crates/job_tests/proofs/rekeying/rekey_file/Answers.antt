use Rattle.job_tests.proofs.rekeying.rekey_file.Goals as goal
use Rattle.pager.proofs.UnreadLemmas.{no_held_pins}

pub rekey-disk-requires-clause-unpinned : goal.rekey-disk-requires-clause-unpinned
rekey-disk-requires-clause-unpinned g c = no_held_pins c.in_ok-pager.pager.cache.held c.in_ok-pager.ensures.unread.0
