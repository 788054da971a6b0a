use Rattle.std.proofs.Common.{◌≡◌, ◌≤◌, ◌+◌, ◌-◌, length}
use Rattle.profile_word.specs.Parts.{parts_from}
use Rattle.profile_word.specs.Word.{settings_of}
use Rattle.profile_word.proofs.Gathering.{with_parts}
use Rattle.profile_word.proofs.word.settings_from.Given as goal

-- The parts from here on, beside the settings so far, give what all give.
abbrev pub invariant-parts : goal.invariant-parts
invariant-parts l = record {
  within : l.at ≤ length l.word + 1;
  same : with_parts (parts_from l.word l.at) l.settings ≡ settings_of (parts_from l.word l.from);
}

abbrev pub decreases-parts : goal.decreases-parts
decreases-parts l = length l.word + 1 - l.at
