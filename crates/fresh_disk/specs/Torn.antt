-- What a write that may have failed leaves.
use Rattle.std.specs.Prelude.{◌≡◌, ◌⊎◌, ℕ, List, Option, Some}
use Rattle.edge_model.specs.Files.{Torn}

-- there is a file, and a write of `n` bytes at the offset was done in part
pub record IsTornAt (at n : ℕ) (old new : Option (List ℕ)) : Type 0 where
  pub before : List ℕ
  pub after : List ℕ
  pub was : old ≡ Some before
  pub is : new ≡ Some after
  pub torn : Torn at n before after

-- nothing changed, or the file did in that range
abbrev pub MayTear : ℕ → ℕ → Option (List ℕ) → Option (List ℕ) → Type 0
MayTear at n old new = (new ≡ old) ⊎ IsTornAt at n old new
