-- A text of whole blocks.
use Rattle.std.specs.Prelude.{ℕ, ◌*◌, List, take, drop}

-- block j of a text, 16 bytes, numbered from 0
abbrev pub block_at : List ℕ → ℕ → List ℕ
block_at text j = take 16 (drop (16 * j) text)
