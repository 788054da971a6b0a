use Rattle.std.proofs.Common.{◌≡◌, length, IsTrue}
use Rattle.system_calls.proofs.retries.read_some.Given as goal

-- Every read so far was interrupted.
abbrev pub invariant-loop : goal.invariant-loop
invariant-loop g l = record {
  size : length l.buf ≡ length l.initial.buf;
  same : IsTrue g.I.InputCalls.tells → g.I.InputCalls.left l.input ≡ g.I.InputCalls.left l.initial.input;
}
