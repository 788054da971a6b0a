use Rattle.std.proofs.Common.{inr}
use Rattle.sqlcipher_tool.proofs.maps.give_up.Goals as goal

pub returns-in-Ok-clause-left : goal.returns-in-Ok-clause-left
returns-in-Ok-clause-left g c told = inr (c.abandon-disk.ensures.any_moment told, c.abandon-disk.ensures.fresh told)

pub returns-in-Err-clause-left : goal.returns-in-Err-clause-left
returns-in-Err-clause-left g c told = inr (c.abandon-disk.ensures.any_moment told, c.abandon-disk.ensures.fresh told)
