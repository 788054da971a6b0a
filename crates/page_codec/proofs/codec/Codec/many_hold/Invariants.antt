use Rattle.std.proofs.Common.{◌-◌, ◌≤◌, length}
use Rattle.page_codec.specs.Pages.{AreAnswered, run_from}
use Rattle.page_codec.proofs.codec.Codec.many_hold.Given as goal

abbrev pub invariant-batches : goal.invariant-batches
invariant-batches l = record {
  within : l.done ≤ length l.held;
  answered : AreAnswered l.self (run_from l.first) l.pages 0 l.done l.fn.held l.held;
}

abbrev pub decreases-batches : goal.decreases-batches
decreases-batches l = length l.held - l.done
