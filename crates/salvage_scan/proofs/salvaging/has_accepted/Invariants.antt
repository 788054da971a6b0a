use Rattle.std.proofs.Common.{◌≤◌, IsTrue}
use Rattle.edge_model.specs.OnlyRead.{OnlyRead}
use Rattle.salvage_scan.specs.Room.{AreRooms}
use Rattle.salvage_scan.specs.Salvage.{file_pages}
use Rattle.salvage_scan.proofs.PageSteps.{AreRefused}
use Rattle.salvage_scan.proofs.salvaging.has_accepted.Given as goal

-- none of the first pages is accepted
abbrev pub invariant-loop-done : goal.invariant-loop-done
invariant-loop-done g l =
    record {
      rooms : AreRooms g.D.Disk.tells l.codec (g.D.Disk.reads l.disk) l.rooms;
      later : g.D.Disk.faults l.initial.disk ≤ g.D.Disk.faults l.disk;
      only_read : IsTrue g.D.Disk.tells → OnlyRead g.D.Disk.reads g.D.Disk.images g.D.Disk.moment g.D.Disk.since l.initial.disk l.disk;
      refused : IsTrue g.D.Disk.tells → AreRefused (file_pages l.codec (g.D.Disk.reads l.initial.disk)) l.done;
    }
