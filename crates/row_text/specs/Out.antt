-- Text on its way to a sink, of which some may wait in a buffer.
use Rattle.std.specs.Prelude.{◌≡◌, ℕ, List, ◌++◌}

-- of what waited and this text the sink was given the first part, and the remainder waits
pub record Moves (text before waiting after left : List ℕ) : Type 0 where
  pub put : List ℕ
  pub given : after ≡ before ++ put
  pub whole : waiting ++ text ≡ put ++ left

-- the same after a failure: all but the part that was given is lost
pub record MovesPart (text before waiting after : List ℕ) : Type 0 where
  pub lost : List ℕ
  pub moves : Moves text before waiting after lost
