use Rattle.std.proofs.Common.{◌≡◌, ◌≤◌, ◌+◌, ◌-◌, IsTrue, length}
use Rattle.db_format.specs.Seen.{marked, open_count}
use Rattle.rowid_find.specs.Reach.{all_steps, reach}
use Rattle.rowid_find.specs.Search.{IsSoFar}
use Rattle.rowid_find.proofs.visit.+visit.Given as goal

abbrev pub decreases-visit : goal.decreases-visit
decreases-visit g l = l.left

-- the steps of the page that are left are all that is left of the search
abbrev pub invariant-steps : goal.invariant-steps
invariant-steps g l =
    record {
      reads : g.S.PageSource.only_read l.fn.source.source.now l.source.source.now;
      same : l.source.source.ghost_name ≡ l.fn.source.source.ghost_name;
      pins : g.S.PageSource.pins l.source.source.now ≡ g.S.PageSource.pins l.fn.source.source.now;
      later : g.K.Sink.faults l.fn.out ≤ g.K.Sink.faults l.out;
      count : l.count ≡ (g.S.PageSource.plain l.source.source.now).count;
      seen : length l.found.seen ≡ length l.fn.found.seen;
      once : l.source.reads + open_count l.found.seen ≤ l.fn.source.reads + open_count l.fn.found.seen;
      on : IsTrue g.S.PageSource.tells
          → IsSoFar g.K.Sink.tells (reach (g.S.PageSource.plain l.fn.source.source.now) l.fn.low l.fn.high l.fn.left l.fn.n)
          (all_steps (g.S.PageSource.plain l.fn.source.source.now) (reach (g.S.PageSource.plain l.fn.source.source.now) l.fn.low l.fn.high (l.fn.left - 1)) l.fn.n l.wanted)
          (record { taken = g.K.Sink.taken l.fn.out; waits = l.fn.found.line; rows = l.fn.found.rows; reads = l.fn.source.reads; marks = marked l.fn.found.seen })
          (record { taken = g.K.Sink.taken l.out; waits = l.found.line; rows = l.found.rows; reads = l.source.reads; marks = marked l.found.seen });
    }

abbrev pub decreases-steps : goal.decreases-steps
decreases-steps g l = length l.wanted
