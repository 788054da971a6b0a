use Rattle.std.proofs.Common.{◌≡◌, IsTrue}
use Rattle.system_calls.proofs.retries.write_some.Given as goal

-- Every write so far was interrupted.
abbrev pub invariant-loop : goal.invariant-loop
invariant-loop g l = IsTrue g.O.OutputCalls.tells → g.O.OutputCalls.taken l.output ≡ g.O.OutputCalls.taken l.initial.output
