use Rattle.std.proofs.Common.{◌-◌, ◌≤◌, length}
use Rattle.page_codec.specs.Pages.{AreAnswered, listed}
use Rattle.page_codec.proofs.codec.Codec.batches_hold.Given as goal

abbrev pub invariant-batches : goal.invariant-batches
invariant-batches l = record {
  within : l.done ≤ length l.numbers;
  answered : AreAnswered l.self (listed l.numbers) l.pages 0 l.done l.fn.held l.held;
}

abbrev pub decreases-batches : goal.decreases-batches
decreases-batches l = length l.numbers - l.done
