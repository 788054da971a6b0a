use Rattle.std.proofs.Common.{◌≡◌, ℕ, List, ◌*◌, length, take}
use Rattle.sha1.specs.Sha1.{digest_bytes}
use Rattle.hash_lanes.specs.Sha1Lanes.{five}
use Rattle.hash_lanes.proofs.sha1_message.digest.Given as goal

abbrev pub invariant-words : goal.invariant-words
invariant-words l = (length l.out ≡ 20) × ((H : ℕ → List ℕ) → l.hashes ≡ five H → take (4 * l.k) l.out ≡ digest_bytes (H l.lane) l.k)
