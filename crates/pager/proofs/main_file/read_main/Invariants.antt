use Rattle.std.proofs.Common.{◌≡◌, take}
use Rattle.pager.proofs.main_file.read_main.Given as goal

-- What was read stays.
abbrev pub invariant-loop-i : goal.invariant-loop-i
invariant-loop-i g l = take l.count l.bytes ≡ take l.count l.initial.bytes
