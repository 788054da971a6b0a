use Rattle.call_memory.proofs.Steps.{from_ok, synced_each}
use Rattle.call_memory.proofs.mem_calls.MemCallsCalls.sync.Goals as goal

pub returns-clause-done : goal.returns-clause-done
returns-clause-done c told clean =
    let store = c.args.self.now.store in
    let kept = c.sync-outcome in
    let there = from_ok kept.result c.in_ok-settle.ensures.same kept.ensures.number in
    let more = from_ok kept.result c.in_ok-settle.ensures.same kept.ensures.ok in
    synced_each store.start kept.new.self.start store.log.items kept.new.self.log.items store.places c.args.place _ kept.ensures.start there more
