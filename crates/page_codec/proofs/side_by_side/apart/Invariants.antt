use Rattle.std.proofs.Common.{◌≡◌, ℕ, ◌*◌, ◌<◌, length, take, drop}
use Rattle.hash_lanes.specs.Messages.{piece}
use Rattle.page_codec.proofs.side_by_side.apart.Given as goal

abbrev pub invariant-tags : goal.invariant-tags
invariant-tags l = record {
  sized : length l.out ≡ 512;
  done : (j : ℕ) → j < l.i → take l.len (drop (j * 64) l.out) ≡ piece l.tags l.len l.len j;
}
