-- The bytes that are read ahead.
use Rattle.std.specs.Prelude.{ℕ, ◌-◌, List, take, drop}

-- of a piece, those from one place to another
abbrev pub held : List ℕ → ℕ → ℕ → List ℕ
held piece start end = take (end - start) (drop start piece)
