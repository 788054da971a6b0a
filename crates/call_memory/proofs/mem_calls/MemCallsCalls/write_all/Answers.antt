use Rattle.call_memory.proofs.Steps.{write_others}
use Rattle.call_memory.proofs.mem_calls.MemCallsCalls.write_all.Goals as goal

pub returns-clause-others : goal.returns-clause-others
returns-clause-others c told =
    let store = c.args.self.now.store in
    let wrote = c.write-outcome in
    write_others wrote.result store.start wrote.new.self.start store.log.items wrote.new.self.log.items store.places wrote.new.self.places _ c.args.place
    _ c.args.at c.args.bytes.now wrote.ensures.start wrote.ensures.places store.files_are wrote.ensures.number wrote.ensures.made wrote.ensures.ok wrote.ensures.err
