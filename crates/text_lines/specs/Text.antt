-- Lines, each of which ends with a line feed. Numbers are decimal.
use Rattle.std.specs.Prelude.{◌≡◌, ℕ, List, [], ◌∷◌, ◌++◌, codes, decimal}

abbrev pub line : List ℕ → List ℕ
line text = text ++ 10 ∷ []

-- a name and a number
abbrev pub field_line : List ℕ → ℕ → List ℕ
field_line name value = line (name ++ codes " " ++ decimal value)

-- a prefix of the text was appended
pub record PutsPart (text before after : List ℕ) : Type 0 where
  pub put : List ℕ
  pub rest : List ℕ
  pub whole : text ≡ put ++ rest
  pub appended : after ≡ before ++ put
