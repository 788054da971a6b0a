use Rattle.std.proofs.Common.{◌-◌, ◌≤◌, length}
use Rattle.page_codec.specs.Pages.{AreTagged}
use Rattle.page_codec.proofs.codec.Codec.put_many.Given as goal

abbrev pub invariant-batches : goal.invariant-batches
invariant-batches l = record {
  within : l.done ≤ length l.numbers;
  tagged : AreTagged l.self l.numbers 0 l.done l.fn.pages l.pages;
}

abbrev pub decreases-batches : goal.decreases-batches
decreases-batches l = length l.numbers - l.done
