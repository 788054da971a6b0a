use Rattle.std.proofs.Common.{refl}
use Rattle.edge_model.specs.Files.{removed}
use Rattle.call_memory.specs.Folder.{shown_in}
use Rattle.call_memory.specs.declared.done.Done.TheVariants.{Remove}
use Rattle.call_memory.proofs.Steps.{StateOf, ImagesOf, no_rename, rename_follows, renamed_done}
use Rattle.call_memory.proofs.mem_calls.MemCallsCalls.remove.Goals as goal

pub returns-in_err-admit-clause-crash : goal.returns-in_err-admit-clause-crash
returns-in_err-admit-clause-crash c told =
    let store = c.args.self.now.store in
    no_rename (removed c.args.name) (shown_in (StateOf store.start store.log.items)) (ImagesOf store.start store.log.items)

pub returns-clause-done : goal.returns-clause-done
returns-clause-done c =
    let store = c.args.self.now.store in
    let gone = c.remove-outcome in
    renamed_done gone.result c.settle.result c.settle.ensures.same store.start gone.new.self.start store.log.items gone.new.self.log.items (Remove c.args.name)
    store.places gone.new.self.places _ gone.ensures.start gone.ensures.places gone.ensures.ok refl

pub returns-clause-crash : goal.returns-clause-crash
returns-clause-crash c told =
    let store = c.args.self.now.store in
    let gone = c.remove-outcome in
    rename_follows gone.result store.start gone.new.self.start store.log.items gone.new.self.log.items (Remove c.args.name) (removed c.args.name)
    gone.ensures.start gone.ensures.ok gone.ensures.err (λ f left. left)
