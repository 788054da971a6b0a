use Rattle.std.proofs.Common.{arith}
use Rattle.map_pages.proofs.TrunkPages.{number_small}
use Rattle.map_pages.proofs.trunk.trunk_from.Goals as goal

pub map_number-requires : goal.map_number-requires
map_number-requires c = number_small c.args.usable c.args.count c.ranges.count.fits c.args.k (omega (arith, c.map_count.ensures, c.if-k-map_count.true))
