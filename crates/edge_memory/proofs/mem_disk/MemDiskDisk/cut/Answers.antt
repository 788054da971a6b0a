use Rattle.edge_memory.proofs.LogSteps.{cut_changes}
use Rattle.edge_memory.proofs.mem_disk.MemDiskDisk.cut.Goals as goal

pub returns-clause-others : goal.returns-clause-others
returns-clause-others c told =
    cut_changes c.cut-outcome.result c.args.self.now.store.start c.cut-outcome.new.self.start c.args.self.now.store.calls.items c.cut-outcome.new.self.calls.items c.args.role c.args.len
    c.cut-outcome.ensures.start c.cut-outcome.ensures.ok c.cut-outcome.ensures.err
