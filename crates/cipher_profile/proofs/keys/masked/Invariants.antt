use Rattle.std.proofs.Common.{◌≡◌, length, take}
use Rattle.hmac_core.specs.Hmac.{xor_each}
use Rattle.cipher_profile.proofs.keys.masked.Given as goal

abbrev pub invariant-loop-i : goal.invariant-loop-i
invariant-loop-i l = record {
  sized : length l.masked ≡ 16;
  done : take l.i l.masked ≡ xor_each 58 (take l.i l.salt);
}
