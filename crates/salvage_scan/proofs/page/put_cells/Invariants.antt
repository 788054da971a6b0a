use Rattle.std.proofs.Common.{◌≡◌, ◌≤◌, drop, IsTrue}
use Rattle.std.specs.List.{flat_map}
use Rattle.edge_model.specs.OnlyRead.{OnlyRead}
use Rattle.salvage_scan.specs.Room.{AreRooms}
use Rattle.salvage_scan.specs.Salvage.{cell_lines, file_pages}
use Rattle.salvage_scan.specs.Scan.{IsScanSoFar}
use Rattle.salvage_scan.specs.Text.{counts_shown}
use Rattle.salvage_scan.proofs.page.put_cells.Given as goal

-- the lines of the first cells are put
abbrev pub invariant-loop-index : goal.invariant-loop-index
invariant-loop-index g l =
    record {
      rooms : AreRooms g.D.Disk.tells l.codec (g.D.Disk.reads l.disk) l.scan.rooms;
      pages : l.scan.pages ≡ l.initial.scan.pages;
      later : g.D.Disk.faults l.initial.disk ≤ g.D.Disk.faults l.disk;
      out_later : g.K.Sink.faults l.initial.out ≤ g.K.Sink.faults l.out;
      only_read : IsTrue g.D.Disk.tells → OnlyRead g.D.Disk.reads g.D.Disk.images g.D.Disk.moment g.D.Disk.since l.initial.disk l.disk;
      on : IsTrue g.D.Disk.tells → IsScanSoFar g.K.Sink.tells
          (flat_map (cell_lines (file_pages l.codec (g.D.Disk.reads l.initial.disk)) l.n) l.page.cells)
          (flat_map (cell_lines (file_pages l.codec (g.D.Disk.reads l.initial.disk)) l.n) (drop l.index l.page.cells))
          (record { taken = g.K.Sink.taken l.initial.out; waits = l.initial.scan.line; counts = counts_shown l.initial.scan.counts })
          (record { taken = g.K.Sink.taken l.out; waits = l.scan.line; counts = counts_shown l.scan.counts });
    }
