use Rattle.std.proofs.Common.{◌≡◌, ◌++◌}
use Rattle.std.specs.Int.{w32, to_be_bytes}
use Rattle.std.specs.Prelude.{flat_map}
use Rattle.map_pages.specs.Trunks.{numbers_from}
use Rattle.map_pages.proofs.trunk.append_numbers.Given as goal

abbrev pub invariant-loop-i : goal.invariant-loop-i
invariant-loop-i l = l.page.items ≡ l.initial.page.items ++ flat_map (to_be_bytes w32) (numbers_from l.usable l.k l.i)
