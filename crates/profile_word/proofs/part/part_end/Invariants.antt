use Rattle.std.proofs.Common.{◌≡◌, ◌≤◌, ◌+◌, length, drop}
use Rattle.profile_word.specs.Parts.{first_part}
use Rattle.profile_word.proofs.part.part_end.Given as goal

-- The part that began at `at` goes on here.
abbrev pub invariant-loop-i : goal.invariant-loop-i
invariant-loop-i l = record {
  from : l.at ≤ l.i;
  within : l.i ≤ length l.word;
  same : l.i + length (first_part (drop l.i l.word)) ≡ l.at + length (first_part (drop l.at l.word));
}
