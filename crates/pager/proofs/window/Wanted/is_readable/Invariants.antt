use Rattle.std.proofs.Common.{◌≤◌, ◌<◌, ℕ, slice_index}
use Rattle.pager.proofs.window.Wanted.is_readable.Given as goal

abbrev pub invariant-numbers : goal.invariant-numbers
invariant-numbers l = (k : ℕ) → k < l.i → (2 ≤ slice_index l.self.numbers k) × (slice_index l.self.numbers k ≤ l.last)
