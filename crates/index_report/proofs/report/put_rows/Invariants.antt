use Rattle.std.proofs.Common.{◌≡◌, ◌≤◌}
use Rattle.std.specs.Prelude.{IsTrue}
use Rattle.db_format.specs.Source.{no_pins}
use Rattle.index_report.proofs.RowSteps.{IsReported}
use Rattle.index_report.proofs.report.put_rows.Given as goal

-- the lines of the rows so far are moved, and what is found of them is counted
abbrev pub invariant-loop-row : goal.invariant-loop-row
invariant-loop-row g l =
    record {
      read : g.S.PageSource.only_read l.initial.source l.source;
      unpinned : g.S.PageSource.pins l.source ≡ no_pins;
      later : g.K.Sink.faults l.initial.out ≤ g.K.Sink.faults l.out;
      on : IsTrue g.S.PageSource.tells
          → IsReported (g.S.PageSource.plain l.initial.source) l.rows l.row-index l.found g.K.Sink.tells (g.K.Sink.taken l.initial.out) l.initial.line (g.K.Sink.taken l.out) l.line;
    }
