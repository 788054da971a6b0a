use Rattle.edge_memory.proofs.LogSteps.{write_changes}
use Rattle.edge_memory.proofs.mem_disk.MemDiskDisk.write_at.Goals as goal

pub returns-clause-others : goal.returns-clause-others
returns-clause-others c told =
    write_changes c.write_at-outcome.result c.args.self.now.store.start c.write_at-outcome.new.self.start c.args.self.now.store.calls.items c.write_at-outcome.new.self.calls.items c.args.role c.args.at c.args.bytes.now
    c.write_at-outcome.ensures.start c.write_at-outcome.ensures.ok c.write_at-outcome.ensures.err
