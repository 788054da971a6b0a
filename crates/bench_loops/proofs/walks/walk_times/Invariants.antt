use Rattle.std.proofs.Common.{◌≡◌}
use Rattle.db_format.specs.Source.{no_pins}
use Rattle.bench_loops.proofs.walks.walk_times.Given as goal

abbrev pub invariant-loop : goal.invariant-loop
invariant-loop g l =
    record {
      pins : g.S.PageSource.pins l.source ≡ no_pins;
      count : (g.S.PageSource.plain l.source).count ≡ l.pages;
    }
