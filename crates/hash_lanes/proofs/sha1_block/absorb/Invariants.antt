use Rattle.std.proofs.Common.{◌≡◌, ℕ, List, ◌*◌, drop}
use Rattle.hash_lanes.specs.Sha1Lanes.{five, hash_from}
use Rattle.hash_lanes.proofs.sha1_block.absorb.Given as goal

abbrev pub invariant-taken : goal.invariant-taken
invariant-taken l = (H : ℕ → List ℕ) → l.fn.hashes ≡ five H → l.hashes ≡ five (λ i. hash_from (H i) (drop (i * l.stride) l.text) l.k)
