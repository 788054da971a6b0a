use Rattle.std.proofs.Common.{◌≡◌, drop, length}
use Rattle.std.specs.Prelude.{IsTrue}
use Rattle.db_format.specs.Seen.{marked}
use Rattle.db_format.specs.Source.{no_pins}
use Rattle.btree_model.specs.Parts.{trees_from}
use Rattle.schema_map.specs.Schema.{tree_roots}
use Rattle.schema_map.proofs.TreesLemmas.{IsPassing}
use Rattle.schema_map.proofs.trees.check_trees.Given as goal

abbrev pub invariant-loop-row : goal.invariant-loop-row
invariant-loop-row g l =
    record {
      read : g.S.PageSource.only_read l.initial.source l.source;
      unpinned : g.S.PageSource.pins l.source ≡ no_pins;
      seen_length : length l.seen ≡ length l.initial.seen;
      on : IsTrue g.S.PageSource.tells
          → IsPassing g.S.PageSource.refuses (g.S.PageSource.plain l.initial.source)
          (trees_from (g.S.PageSource.plain l.initial.source) (marked l.initial.seen) (tree_roots l.rows))
          (trees_from (g.S.PageSource.plain l.initial.source) (marked l.seen) (tree_roots (drop l.row-index l.rows)))
          l.initial.seen l.seen l.trees l.entries;
    }
