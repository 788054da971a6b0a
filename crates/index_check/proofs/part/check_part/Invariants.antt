use Rattle.std.proofs.Common.{◌≡◌, ◌+◌, ◌^◌, ◌≤◌, ℤ, List, Option, Some, length}
use Rattle.db_format.specs.Seen.{marked}
use Rattle.btree_page.specs.declared.kind.Family.TheVariants.{Index}
use Rattle.btree_walk.specs.Cursor.{IsCursorReady}
use Rattle.btree_walk.specs.Turn.{work}
use Rattle.index_check.proofs.RowLemmas.{AreTallied}
use Rattle.index_check.proofs.part.check_part.Given as goal

abbrev pub invariant-entries : goal.invariant-entries
invariant-entries g l =
    record {
      ready : IsCursorReady (g.S.PageSource.plain l.source).count (g.S.PageSource.pins l.source) l.seen l.cursor;
      read : g.S.PageSource.only_read l.fn.source l.source;
      root : l.cursor.root ≡ l.fn.root;
      asked : l.cursor.asked ≡ Some Index;
      few : l.tally.entries + work l.seen l.cursor.path ≤ 2 ^ 53;
      nameless : l.tally.nameless ≤ l.tally.entries;
      strangers : l.tally.strangers.count ≤ l.tally.entries;
      marks : length l.tally.met ≡ length l.fn.window.rowids.items + 1;
      on : (found : List (Option ℤ)) × AreTallied g.S.PageSource.tells (g.S.PageSource.plain l.fn.source) l.cursor (marked l.seen) l.fn.window found l.tally;
    }

abbrev pub decreases-entries : goal.decreases-entries
decreases-entries g l = work l.seen l.cursor.path
