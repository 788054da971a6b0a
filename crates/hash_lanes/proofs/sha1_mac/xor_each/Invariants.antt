use Rattle.std.proofs.Common.{◌≡◌, length, take}
use Rattle.hmac_core.specs.Hmac.{xor_each}
use Rattle.hash_lanes.proofs.sha1_mac.xor_each.Given as goal

abbrev pub invariant-loop-i : goal.invariant-loop-i
invariant-loop-i l = record {
  sized : length l.out ≡ 64;
  done : take l.i l.out ≡ xor_each l.byte (take l.i l.block);
}
