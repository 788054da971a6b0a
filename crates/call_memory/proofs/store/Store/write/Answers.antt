use Rattle.std.proofs.Common.{rules}
use Rattle.call_memory.proofs.store.Store.write.Goals as goal

pub returns-clause-ok : goal.returns-clause-ok
returns-clause-ok c = (c.in_ok-copy.copy, c.in_ok-copy.ensures.ok, search rules)
