-- Random bytes that a call has drawn.
use Rattle.std.specs.Prelude.{ℕ, List, length, drop}

-- what was drawn after the earlier ones of all that was drawn
abbrev pub drawn_since : List ℕ → List ℕ → List ℕ
drawn_since before after = drop (length before) after
