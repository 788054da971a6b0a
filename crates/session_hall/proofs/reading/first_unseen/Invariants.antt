use Rattle.std.proofs.Common.{◌≤◌, IsTrue}
use Rattle.edge_model.specs.OnlyRead.{OnlyRead}
use Rattle.edge_model.specs.Files.{main_of}
use Rattle.session_hall.specs.Machine.{SeesUpTo}
use Rattle.session_hall.proofs.reading.first_unseen.Given as goal

abbrev pub invariant-loop-done : goal.invariant-loop-done
invariant-loop-done g l = record {
  read : IsTrue g.D.Disk.tells → OnlyRead g.D.Disk.reads g.D.Disk.images g.D.Disk.moment g.D.Disk.since l.initial.disk l.disk;
  later : g.D.Disk.faults l.initial.disk ≤ g.D.Disk.faults l.disk;
  seen : IsTrue g.D.Disk.tells → SeesUpTo l.session (main_of (g.D.Disk.reads l.initial.disk)) l.done;
}
