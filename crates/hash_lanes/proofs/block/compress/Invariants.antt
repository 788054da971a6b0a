use Rattle.std.proofs.Common.{◌≡◌, ℕ, List, ◌+◌, ◌*◌, take, drop}
use Rattle.hash_lanes.specs.Lanes.{AreAtRound, words}
use Rattle.hash_lanes.proofs.block.compress.Given as goal

abbrev pub invariant-schedule : goal.invariant-schedule
invariant-schedule l = (H : ℕ → List ℕ) → l.hashes ≡ words H
    → AreAtRound (λ i. take 128 (drop (l.at + i * l.stride) l.text)) H l.w l.v (16 * l.turn)
