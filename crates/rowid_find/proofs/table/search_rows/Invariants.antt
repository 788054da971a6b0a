use Rattle.std.proofs.Common.{◌≡◌, drop}
use Rattle.std.specs.Prelude.{IsTrue}
use Rattle.rowid_find.specs.Table.{table_of}
use Rattle.rowid_find.proofs.table.search_rows.Given as goal

abbrev pub invariant-loop-row : goal.invariant-loop-row
invariant-loop-row g l =
    record {
      read : g.S.PageSource.only_read l.initial.source l.source;
      pins : g.S.PageSource.pins l.source ≡ g.S.PageSource.pins l.initial.source;
      on : IsTrue g.S.PageSource.tells
          → table_of (g.S.PageSource.plain l.initial.source) l.name (drop l.row-index l.rows) ≡ table_of (g.S.PageSource.plain l.initial.source) l.name l.rows;
    }
