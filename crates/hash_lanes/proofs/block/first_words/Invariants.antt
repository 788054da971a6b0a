use Rattle.std.proofs.Common.{◌≡◌, ℕ, ◌+◌, ◌*◌, ◌<◌, [], length}
use Rattle.std.specs.Prelude.{slice_index_or}
use Rattle.sha2.specs.Sha512.{word_at}
use Rattle.hash_lanes.specs.Lanes.{four}
use Rattle.hash_lanes.proofs.block.first_words.Given as goal

abbrev pub invariant-first : goal.invariant-first
invariant-first l = (length l.w ≡ 16)
    × ((j : ℕ) → j < l.k → slice_index_or l.w j [] ≡ four (λ i. word_at l.text (l.at + 8 * j + i * l.stride)))
