use Rattle.std.proofs.Common.{◌≡◌, ℕ, ◌≤◌, ◌<◌, take, length, get_or}
use Rattle.log_recovery.proofs.reading.read_full.Given as goal

abbrev pub invariant-loop-i : goal.invariant-loop-i
invariant-loop-i g l = record {
  front : take l.count l.buffer ≡ take l.count l.initial.buffer;
  zeros : (j : ℕ) → l.count ≤ j → j < l.i → get_or l.buffer j 0 ≡ 0;
  len : length l.buffer ≡ length l.initial.buffer;
}
