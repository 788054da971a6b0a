use Rattle.std.proofs.Common.{◌≡◌, ◌≤◌, true, false, length}
use Rattle.std.specs.Prelude.{slice_index_or}
use Rattle.btree_page.specs.Payload.{max_payload}
use Rattle.bulk_load.specs.Loader.{IsLoader, family_of_loader}
use Rattle.load_tests.proofs.loading.load.Given as goal

abbrev pub invariant-loop-before : goal.invariant-loop-before
invariant-loop-before l =
    record {
      ready : IsLoader l.loader l.out.usable;
      family : family_of_loader l.loader ≡ l.family;
      free : l.loader.at_one ≡ true → slice_index_or l.out.put.items 1 false ≡ false;
      short : length l.payload ≤ max_payload;
    }
