use Rattle.std.proofs.Common.{◌∙◌, ap}
use Rattle.edge_model.specs.Files.{Files, bytes_of}
use Rattle.edge_memory.specs.Log.{files_of, newest_first}
use Rattle.edge_memory.specs.Picks.{picked}
use Rattle.edge_memory.proofs.ImagePicks.{picked_image, shown_same}
use Rattle.edge_memory.proofs.mem_disk.MemDisk.image.Goals as goal

pub returns-clause-pick : goal.returns-clause-pick
returns-clause-pick c =
    let is = c.in_ok-image.ensures in
    shown_same _ _
    (c.in_ok-disk.ensures.main ∙ c.bytes_in-main.ensures ∙ ap (λ (f : Files). bytes_of f.main) is)
    (c.in_ok-disk.ensures.journal ∙ c.bytes_in-journal.ensures ∙ ap (λ (f : Files). bytes_of f.journal) is)
    (c.in_ok-disk.ensures.fresh ∙ c.bytes_in-fresh.ensures ∙ ap (λ (f : Files). bytes_of f.fresh) is)

pub returns-clause-one : goal.returns-clause-one
returns-clause-one c =
    let start = c.args.self.now.store.start in
    let calls = newest_first c.args.self.now.store.calls.items in
    (picked c.args.pick (files_of start) calls, picked_image c.args.pick start calls, returns-clause-pick c)
