use Rattle.std.proofs.Common.{take}
use Rattle.call_memory.proofs.Lists.{put_changed}
use Rattle.call_memory.proofs.store.cut_in.Goals as goal

pub returns : goal.returns
returns c =
    put_changed c.args.files.now c.args.number c.index_mut.result.now c.truncate.new.self (take c.args.len) c.requires c.index_mut.ensures.value
    c.truncate.ensures.items
