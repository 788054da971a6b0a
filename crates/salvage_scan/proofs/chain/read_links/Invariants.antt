use Rattle.std.proofs.Common.{◌≤◌, ◌-◌, IsTrue}
use Rattle.edge_model.specs.OnlyRead.{OnlyRead}
use Rattle.salvage_scan.specs.Chain.{IsOnPayloadChain}
use Rattle.salvage_scan.specs.Room.{AreRooms}
use Rattle.salvage_scan.specs.Salvage.{file_pages}
use Rattle.salvage_scan.proofs.chain.read_links.Given as goal

-- so many pages of the chain are read, and the others are left
abbrev pub invariant-loop-turn : goal.invariant-loop-turn
invariant-loop-turn g l =
    record {
      rooms : AreRooms g.D.Disk.tells l.codec (g.D.Disk.reads l.disk) l.rooms;
      later : g.D.Disk.faults l.initial.disk ≤ g.D.Disk.faults l.disk;
      only_read : IsTrue g.D.Disk.tells → OnlyRead g.D.Disk.reads g.D.Disk.images g.D.Disk.moment g.D.Disk.since l.initial.disk l.disk;
      on : IsTrue g.D.Disk.tells → IsOnPayloadChain (file_pages l.codec (g.D.Disk.reads l.initial.disk)) l.needed l.first (l.needed - l.turn) l.n
          l.initial.payload.items l.payload.items;
    }
