use Rattle.std.proofs.Common.{refl}
use Rattle.edge_model.specs.Files.{renamed}
use Rattle.call_memory.specs.Folder.{shown_in}
use Rattle.call_memory.specs.declared.done.Done.TheVariants.{Rename}
use Rattle.call_memory.proofs.Steps.{StateOf, ImagesOf, no_rename, rename_follows, renamed_done}
use Rattle.call_memory.proofs.mem_calls.MemCallsCalls.rename_fresh.Goals as goal

pub returns-in_err-admit-clause-crash : goal.returns-in_err-admit-clause-crash
returns-in_err-admit-clause-crash c told =
    let store = c.args.self.now.store in
    no_rename renamed (shown_in (StateOf store.start store.log.items)) (ImagesOf store.start store.log.items)

pub returns-clause-done : goal.returns-clause-done
returns-clause-done c =
    let store = c.args.self.now.store in
    let gone = c.rename_fresh-outcome in
    renamed_done gone.result c.settle.result c.settle.ensures.same store.start gone.new.self.start store.log.items gone.new.self.log.items Rename
    store.places gone.new.self.places _ gone.ensures.start gone.ensures.places gone.ensures.ok refl

pub returns-clause-crash : goal.returns-clause-crash
returns-clause-crash c told =
    let store = c.args.self.now.store in
    let gone = c.rename_fresh-outcome in
    rename_follows gone.result store.start gone.new.self.start store.log.items gone.new.self.log.items Rename renamed
    gone.ensures.start gone.ensures.ok gone.ensures.err (λ f left. left)
