use Rattle.std.proofs.Common.{◌+◌}
use Rattle.db_format.proofs.SeenLemmas.{none_set, length-bits}
use Rattle.db_format.proofs.seen.Seen.new.Goals as goal

pub returns-in-Ok-clause-none : goal.returns-in-Ok-clause-none
returns-in-Ok-clause-none c = none_set c.in-Ok.bytes.items _ (c.args.pages + 1) (c.in-Ok.ensures.items_if_clones_equal (λ y e. e))

pub returns-in-Ok-clause-length : goal.returns-in-Ok-clause-length
returns-in-Ok-clause-length c = length-bits c.in-Ok.bytes.items 0 (c.args.pages + 1)
