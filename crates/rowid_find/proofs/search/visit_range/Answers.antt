use Rattle.std.proofs.Common.{rules, ◌≡◌, true, []}
use Rattle.std.specs.Prelude.{int_lt}
use Rattle.db_format.specs.Seen.{marked}
use Rattle.rowid_find.proofs.SearchSteps.{at_start}
use Rattle.rowid_find.proofs.search.visit_range.Goals as goal

pub returns-then-high-low-clause-on : goal.returns-then-high-low-clause-on
returns-then-high-low-clause-on g c told =
    let empty : int_lt c.args.high c.args.low ≡ true = search rules in
    rw empty
    (at_start g.K.Sink.tells []
    (record { taken = g.K.Sink.taken c.args.out.now; waits = c.args.found.now.line; rows = c.args.found.now.rows; reads = c.args.source.now.reads; marks = marked c.args.found.now.seen }))
