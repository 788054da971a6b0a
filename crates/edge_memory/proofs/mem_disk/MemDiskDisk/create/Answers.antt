use Rattle.edge_memory.proofs.LogSteps.{create_follows}
use Rattle.edge_memory.proofs.mem_disk.MemDiskDisk.create.Goals as goal

pub returns-clause-crash : goal.returns-clause-crash
returns-clause-crash c told =
    create_follows c.create-outcome.result c.args.self.now.store.start c.create-outcome.new.self.start c.args.self.now.store.calls.items c.create-outcome.new.self.calls.items c.args.role
    c.create-outcome.ensures.start c.create-outcome.ensures.ok c.create-outcome.ensures.err
