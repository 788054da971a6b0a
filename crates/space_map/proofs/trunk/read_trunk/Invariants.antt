use Rattle.std.proofs.Common.{◌≡◌, ◌+◌, ◌*◌, ◌-◌}
use Rattle.std.specs.List.{list_all}
use Rattle.db_format.specs.Pages.{Pages}
use Rattle.btree_model.specs.Freelist.{numbers_at}
use Rattle.btree_model.specs.Range.{is_in_range}
use Rattle.space_map.proofs.trunk.read_trunk.Given as goal

abbrev pub invariant-loop-index : goal.invariant-loop-index
invariant-loop-index l =
    (pages : Pages) → pages.count ≡ l.count
    → list_all (is_in_range pages) (numbers_at l.bytes 8 l.size) ≡ list_all (is_in_range pages) (numbers_at l.bytes (8 + 4 * l.index) (l.size - l.index))
