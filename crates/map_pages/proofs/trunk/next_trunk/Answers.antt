use Rattle.std.proofs.Common.{◌+◌, arith}
use Rattle.map_pages.proofs.TrunkPages.{number_small}
use Rattle.map_pages.proofs.trunk.next_trunk.Goals as goal

pub map_number-requires : goal.map_number-requires
map_number-requires c =
    number_small c.args.usable c.args.count c.ranges.count.fits (c.args.k + c.room-then-map_count-k.result + 1)
    (omega (arith, c.map_count.ensures, c.room.ensures, c.room-then-map_count-k.ensures, c.if-map_count-k.true))
