use Rattle.edge_memory.proofs.LogSteps.{remove_follows}
use Rattle.edge_memory.proofs.mem_disk.MemDiskDisk.remove.Goals as goal

pub returns-clause-crash : goal.returns-clause-crash
returns-clause-crash c told =
    remove_follows c.remove-outcome.result c.args.self.now.store.start c.remove-outcome.new.self.start c.args.self.now.store.calls.items c.remove-outcome.new.self.calls.items c.args.role
    c.remove-outcome.ensures.start c.remove-outcome.ensures.ok c.remove-outcome.ensures.err
