use Rattle.std.proofs.Common.{◌≡◌, ℕ, ◌+◌, ◌*◌, ◌<◌, [], length}
use Rattle.std.specs.Prelude.{slice_index_or}
use Rattle.sha1.specs.Sha1.{word_at}
use Rattle.hash_lanes.specs.Sha1Lanes.{eight}
use Rattle.hash_lanes.proofs.sha1_block.first_words.Given as goal

abbrev pub invariant-first : goal.invariant-first
invariant-first l = (length l.w ≡ 16)
    × ((j : ℕ) → j < l.k → slice_index_or l.w j [] ≡ eight (λ i. word_at l.text (l.at + 4 * j + i * l.stride)))
