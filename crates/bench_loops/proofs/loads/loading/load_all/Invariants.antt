use Rattle.std.proofs.Common.{◌≡◌, false}
use Rattle.bulk_load.specs.Loader.{IsLoader, family_of_loader}
use Rattle.bench_loops.proofs.loads.loading.load_all.Given as goal

abbrev pub invariant-loop-before : goal.invariant-loop-before
invariant-loop-before g l =
    record {
      ready : IsLoader l.loader (g.P.PageOut.pages l.out).usable;
      family : family_of_loader l.loader ≡ l.family;
      at_one : l.loader.at_one ≡ false;
    }
