use Rattle.std.proofs.Common.{◌≡◌, ◌≤◌, ◌+◌, ◌-◌, IsTrue}
use Rattle.std.specs.List.{flat_map, range_with_len}
use Rattle.edge_model.specs.OnlyRead.{OnlyRead}
use Rattle.salvage_scan.specs.Room.{AreRooms}
use Rattle.salvage_scan.specs.Salvage.{file_pages, page_lines, salvage_lines}
use Rattle.salvage_scan.specs.Scan.{IsScanSoFar}
use Rattle.salvage_scan.specs.Text.{counts_shown}
use Rattle.salvage_scan.proofs.salvaging.put_pages.Given as goal

-- the lines of the first pages are put
abbrev pub invariant-loop-done : goal.invariant-loop-done
invariant-loop-done g l =
    record {
      rooms : AreRooms g.D.Disk.tells l.codec (g.D.Disk.reads l.disk) l.scan.rooms;
      pages : l.scan.pages ≡ l.initial.scan.pages;
      later : g.D.Disk.faults l.initial.disk ≤ g.D.Disk.faults l.disk;
      out_later : g.K.Sink.faults l.initial.out ≤ g.K.Sink.faults l.out;
      only_read : IsTrue g.D.Disk.tells → OnlyRead g.D.Disk.reads g.D.Disk.images g.D.Disk.moment g.D.Disk.since l.initial.disk l.disk;
      on : IsTrue g.D.Disk.tells → IsScanSoFar g.K.Sink.tells (salvage_lines (file_pages l.codec (g.D.Disk.reads l.initial.disk)))
          (flat_map (page_lines (file_pages l.codec (g.D.Disk.reads l.initial.disk)))
          (range_with_len (l.done + 1) ((file_pages l.codec (g.D.Disk.reads l.initial.disk)).count - l.done)))
          (record { taken = g.K.Sink.taken l.initial.out; waits = l.initial.scan.line; counts = counts_shown l.initial.scan.counts })
          (record { taken = g.K.Sink.taken l.out; waits = l.scan.line; counts = counts_shown l.scan.counts });
    }
