use Rattle.std.proofs.Common.{◌≡◌, ℕ, List, ◌*◌, length, take}
use Rattle.sha2.specs.Sha512.{digest_bytes}
use Rattle.hash_lanes.specs.Lanes.{words}
use Rattle.hash_lanes.proofs.message.digest.Given as goal

abbrev pub invariant-words : goal.invariant-words
invariant-words l = (length l.out ≡ 64) × ((H : ℕ → List ℕ) → l.hashes ≡ words H → take (8 * l.k) l.out ≡ digest_bytes (H l.lane) l.k)
