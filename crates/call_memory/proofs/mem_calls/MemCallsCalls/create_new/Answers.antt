use Rattle.edge_model.specs.Files.{created}
use Rattle.call_memory.specs.Folder.{shown_in}
use Rattle.call_memory.specs.declared.done.Done.TheVariants.{Create}
use Rattle.call_memory.proofs.Steps.{StateOf, ImagesOf, no_rename, rename_follows, created_done}
use Rattle.call_memory.proofs.mem_calls.MemCallsCalls.create_new.Goals as goal

pub returns-in_err-admit-clause-crash : goal.returns-in_err-admit-clause-crash
returns-in_err-admit-clause-crash c told =
    let store = c.args.self.now.store in
    no_rename (created c.args.name _) (shown_in (StateOf store.start store.log.items)) (ImagesOf store.start store.log.items)

pub returns-then-is_some-clause-crash : goal.returns-then-is_some-clause-crash
returns-then-is_some-clause-crash c told =
    let store = c.args.self.now.store in
    no_rename (created c.args.name _) (shown_in (StateOf store.start store.log.items)) (ImagesOf store.start store.log.items)

pub returns-clause-done : goal.returns-clause-done
returns-clause-done c =
    let store = c.args.self.now.store in
    let made = c.create-outcome in
    created_done made.result c.settle.result c.settle.ensures.same store.start made.new.self.start store.log.items made.new.self.log.items c.args.name
    store.places made.new.self.places _ made.ensures.start store.files_are made.ensures.places made.ensures.ok

pub returns-clause-crash : goal.returns-clause-crash
returns-clause-crash c told =
    let store = c.args.self.now.store in
    let made = c.create-outcome in
    rename_follows made.result store.start made.new.self.start store.log.items made.new.self.log.items (Create c.args.name) (created c.args.name _)
    made.ensures.start made.ensures.ok made.ensures.err (λ f left. left)
