-- What a row of planes holds.
use Rattle.std.specs.Prelude.{◌≡◌, ℕ, List, [], ◌∷◌, length}
use Rattle.aes_lanes.specs.Bits.{bit_in, number}
use Rattle.aes_lanes.specs.declared.lanes.Row.{Row}

-- each plane has four lanes
pub record IsRow (q : Row) : Type 0 where
  pub l0 : length q.p0 ≡ 4
  pub l1 : length q.p1 ≡ 4
  pub l2 : length q.p2 ≡ 4
  pub l3 : length q.p3 ≡ 4
  pub l4 : length q.p4 ≡ 4
  pub l5 : length q.p5 ≡ 4
  pub l6 : length q.p6 ≡ 4
  pub l7 : length q.p7 ≡ 4

-- the bits of the byte in column c of block j
abbrev pub row_bits : Row → ℕ → ℕ → List ℕ
row_bits q c j = bit_in q.p0 c j ∷ bit_in q.p1 c j ∷ bit_in q.p2 c j ∷ bit_in q.p3 c j ∷ bit_in q.p4 c j ∷ bit_in q.p5 c j ∷ bit_in q.p6 c j
    ∷ bit_in q.p7 c j ∷ []

-- the byte in column c of block j
abbrev pub byte_in : Row → ℕ → ℕ → ℕ
byte_in q c j = number (row_bits q c j)
