use Rattle.std.proofs.Common.{◌<◌, ◌≤◌, length, length-set, arith, bit_xor, get_or}
use Rattle.std.proofs.lemmas.List.{take_all, take_more_set, map_more}
use Rattle.hash_lanes.proofs.sha1_mac.xor_each.Goals as goal

pub loop-i-preserved : goal.loop-i-preserved
loop-i-preserved c =
    let i = c.loop-i.i in
    let byte = bit_xor (get_or c.args.block.now i 0) c.args.byte in
    let in_out : i < length c.loop-i.out = omega (arith, c.loop-i.invariant.sized) in
    let in_block : i < length c.args.block.now = omega arith in
    let written = take_more_set c.loop-i.out i byte in_out in
    let mapped = map_more (λ x. bit_xor x c.args.byte) c.args.block.now i 0 in_block in
    record {
      sized = omega (arith, length-set c.loop-i.out i byte, c.loop-i.invariant.sized);
      done = cc (written, mapped, c.loop-i.invariant.done);
    }

pub returns : goal.returns
returns c =
    let i = c.loop-i.i in
    let out_within : length c.loop-i.out ≤ i = omega (arith, c.loop-i.invariant.sized) in
    let block_within : length c.args.block.now ≤ i = omega arith in
    let whole_out = take_all i c.loop-i.out out_within in
    let whole_block = take_all i c.args.block.now block_within in
    cc (whole_out, whole_block, c.loop-i.invariant.done)
