use Rattle.std.proofs.Common.{◌≡◌, ℕ, List, ◌<◌, length}
use Rattle.sha1.specs.Sha1.{digest_bytes}
use Rattle.hash_lanes.specs.Messages.{piece}
use Rattle.hash_lanes.specs.Sha1Lanes.{five}
use Rattle.hash_lanes.proofs.sha1_message.digests.Given as goal

abbrev pub invariant-messages : goal.invariant-messages
invariant-messages l = (length l.out ≡ 160)
    × ((H : ℕ → List ℕ) → l.hashes ≡ five H → (j : ℕ) → j < l.i → piece l.out 20 20 j ≡ digest_bytes (H j) 5)
