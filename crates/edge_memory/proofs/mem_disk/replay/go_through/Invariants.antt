use Rattle.std.proofs.Common.{◌≡◌, ◌+◌, take}
use Rattle.edge_memory.specs.Log.{files_of, newest_first}
use Rattle.edge_memory.specs.Replay.{IsAfter}
use Rattle.edge_memory.proofs.mem_disk.replay.go_through.Given as goal

abbrev pub invariant-loop-call : goal.invariant-loop-call
invariant-loop-call l = (l.number ≡ 3 + l.call-index) × IsAfter (files_of l.fn.start) (newest_first (take l.call-index l.calls.items)) l.replay
