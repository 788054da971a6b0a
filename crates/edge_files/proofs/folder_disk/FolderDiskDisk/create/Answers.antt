use Rattle.edge_files.proofs.Around.{around_time}
use Rattle.edge_files.proofs.folder_disk.FolderDiskDisk.create.Goals as goal

pub returns-clause-time : goal.returns-clause-time
returns-clause-time g c told =
    around_time g.met.C.Calls.counts_now (λ f. f.calls) (λ d. d.files) _ _ c.prepare_create-ready.new.files told c.prepare_create-ready.ensures.looked (c.create-outcome.ensures.time told)
