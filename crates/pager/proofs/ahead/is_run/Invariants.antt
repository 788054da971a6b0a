use Rattle.std.proofs.Common.{◌≡◌, ◌+◌, ◌<◌, ℕ, slice_index}
use Rattle.pager.proofs.ahead.is_run.Given as goal

abbrev pub invariant-numbers : goal.invariant-numbers
invariant-numbers l = (k : ℕ) → k < l.i → slice_index l.numbers k ≡ slice_index l.numbers 0 + k
