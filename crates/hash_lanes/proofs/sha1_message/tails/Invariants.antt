use Rattle.std.proofs.Common.{◌≡◌, ℕ, ◌+◌, ◌-◌, ◌*◌, ◌<◌, ◌++◌, length, take, drop}
use Rattle.sha1.specs.Sha1.{padding}
use Rattle.hash_lanes.specs.Messages.{piece}
use Rattle.hash_lanes.specs.Sha1Lanes.{tail_blocks}
use Rattle.hash_lanes.proofs.sha1_message.tails.Given as goal

abbrev pub invariant-messages : goal.invariant-messages
invariant-messages l = (length l.out ≡ 1024)
    × ((j : ℕ) → j < l.i → take (tail_blocks (l.len - l.at + l.end_len) * 64) (drop (j * 128) l.out)
    ≡ drop l.at (piece l.text l.stride l.len j) ++ (piece l.ends l.end_len l.end_len j ++ padding l.total))
