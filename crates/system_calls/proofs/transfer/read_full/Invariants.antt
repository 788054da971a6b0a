use Rattle.std.proofs.Common.{◌≡◌, ◌-◌, ◌≤◌, IsTrue, length, take, drop}
use Rattle.edge_model.specs.Files.{contents}
use Rattle.system_calls.specs.System.{opened}
use Rattle.system_calls.proofs.transfer.read_full.Given as goal

-- The first `count` bytes are read.
abbrev pub invariant-loop-count : goal.invariant-loop-count
invariant-loop-count g l = record {
  within : l.count ≤ length l.buf;
  size : length l.buf ≡ length l.initial.buf;
  told : IsTrue g.C.Calls.tells → take l.count l.buf ≡ take l.count (drop l.at (contents (opened (g.C.Calls.system l.calls) l.place)));
}

abbrev pub decreases-loop-count : goal.decreases-loop-count
decreases-loop-count g l = length l.buf - l.count
