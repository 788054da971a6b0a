use Rattle.std.proofs.Common.{◌≡◌, length, IsTrue}
use Rattle.system_calls.proofs.retries.read_next.Given as goal

-- Every read so far was interrupted.
abbrev pub invariant-loop : goal.invariant-loop
invariant-loop g l = record {
  size : length l.buf ≡ length l.initial.buf;
  left : IsTrue g.D.DeviceCalls.tells → g.D.DeviceCalls.left l.device ≡ g.D.DeviceCalls.left l.initial.device;
  given : IsTrue g.D.DeviceCalls.tells → g.D.DeviceCalls.given l.device ≡ g.D.DeviceCalls.given l.initial.device;
}
