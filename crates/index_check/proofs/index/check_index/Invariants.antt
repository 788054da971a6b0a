use Rattle.std.proofs.Common.{◌≡◌}
use Rattle.std.specs.Prelude.{IsTrue}
use Rattle.db_format.specs.Pages.{nothing}
use Rattle.db_format.specs.Source.{no_pins}
use Rattle.btree_page.specs.declared.kind.Family.TheVariants.{Index, Table}
use Rattle.btree_model.specs.Finding.{entries}
use Rattle.btree_model.specs.Tree.{tree_walk}
use Rattle.index_check.specs.Agree.{owners, rowids}
use Rattle.index_check.proofs.SumLemmas.{AreSoFar, left_above}
use Rattle.index_check.proofs.index.check_index.Given as goal

abbrev pub invariant-windows : goal.invariant-windows
invariant-windows g l =
    record {
      read : g.S.PageSource.only_read l.fn.source l.source;
      unpinned : g.S.PageSource.pins l.source ≡ no_pins;
      on : IsTrue g.S.PageSource.tells
          → AreSoFar (rowids (entries (tree_walk (g.S.PageSource.plain l.fn.source) Table nothing l.fn.table)))
          (owners (entries (tree_walk (g.S.PageSource.plain l.fn.source) Index nothing l.fn.index))) l.above l.missing l.strangers;
    }

abbrev pub decreases-windows : goal.decreases-windows
decreases-windows g l = left_above l.above
