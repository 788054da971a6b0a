use Rattle.std.proofs.Common.{◌≡◌, ℕ, List, ◌*◌, drop}
use Rattle.sha2.specs.Sha512.{hash_after}
use Rattle.hash_lanes.specs.Lanes.{words}
use Rattle.hash_lanes.proofs.block.absorb.Given as goal

abbrev pub invariant-taken : goal.invariant-taken
invariant-taken l = (H : ℕ → List ℕ) → l.fn.hashes ≡ words H → l.hashes ≡ words (λ i. hash_after (H i) (drop (i * l.stride) l.text) l.k)
