use Rattle.std.proofs.Common.{◌≡◌, ◌++◌, ◌-◌, ◌≤◌, length, take, IsTrue}
use Rattle.system_calls.proofs.retries.read_whole.Given as goal

-- The first `count` bytes are read.
abbrev pub invariant-loop-count : goal.invariant-loop-count
invariant-loop-count g l = record {
  within : l.count ≤ length l.buf;
  size : length l.buf ≡ length l.initial.buf;
  left : IsTrue g.D.DeviceCalls.tells → g.D.DeviceCalls.left l.initial.device ≡ take l.count l.buf ++ g.D.DeviceCalls.left l.device;
  given : IsTrue g.D.DeviceCalls.tells → g.D.DeviceCalls.given l.device ≡ g.D.DeviceCalls.given l.initial.device ++ take l.count l.buf;
}

abbrev pub decreases-loop-count : goal.decreases-loop-count
decreases-loop-count g l = length l.buf - l.count
