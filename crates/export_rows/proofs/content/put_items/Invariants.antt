use Rattle.std.proofs.Common.{◌≡◌, ◌≤◌}
use Rattle.std.specs.Prelude.{IsTrue}
use Rattle.db_format.specs.Source.{no_pins}
use Rattle.export_rows.proofs.SchemaText.{IsWritten}
use Rattle.export_rows.proofs.content.put_items.Given as goal

-- the lines of the rows so far are moved
abbrev pub invariant-loop-row : goal.invariant-loop-row
invariant-loop-row g l =
    record {
      read : g.S.PageSource.only_read l.initial.source l.source;
      unpinned : g.S.PageSource.pins l.source ≡ no_pins;
      later : g.K.Sink.faults l.initial.out ≤ g.K.Sink.faults l.out;
      on : IsTrue g.S.PageSource.tells
          → IsWritten (g.S.PageSource.plain l.initial.source) l.rows l.row-index l.count g.K.Sink.tells (g.K.Sink.taken l.initial.out) l.initial.line (g.K.Sink.taken l.out) l.line;
    }
