use Rattle.std.proofs.Common.{sym}
use Rattle.space_map.proofs.TrunkLemmas.{bad_leaf, good_leaf}
use Rattle.space_map.proofs.trunk.read_trunk.Goals as goal

pub returns-then-not-is_in_range-2 : goal.returns-then-not-is_in_range-2
returns-then-not-is_in_range-2 c pages same usable =
    bad_leaf pages c.args.bytes.now c.u32_at-size.result c.loop-index.index c.u32_at-leaf.result c.u32_at-size.ensures (c.loop-index.invariant pages same)
    c.loop-index-test.true c.u32_at-leaf.ensures (sym (c.if-not-is_in_range-2.ensures.value pages same))

pub loop-index-preserved : goal.loop-index-preserved
loop-index-preserved c pages same =
    good_leaf pages c.args.bytes.now c.u32_at-size.result c.loop-index.index c.u32_at-leaf.result (c.loop-index.invariant pages same)
    c.loop-index-test.true c.u32_at-leaf.ensures (sym (c.if-not-is_in_range-2.ensures.value pages same))
