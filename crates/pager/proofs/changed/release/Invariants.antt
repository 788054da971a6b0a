use Rattle.std.proofs.Common.{◌≡◌, drop}
use Rattle.pager.specs.Changed.{AreListed}
use Rattle.pager.proofs.changed.release.Given as goal

abbrev pub invariant-loop-k : goal.invariant-loop-k
invariant-loop-k l = record {
  left : AreListed (drop l.k l.numbers) l.cache.held;
  sizes : (l.cache.frames ≡ l.fn.cache.frames) × (l.cache.usable ≡ l.fn.cache.usable);
}
