-- Matrices of bits, transposed.
use Rattle.std.specs.Prelude.{◌≡◌, ℕ, ◌+◌, ◌*◌, ◌/◌, ◌%◌, ◌-◌, ◌<◌, ◌==◌, if◌then◌else◌, List, [], ◌∷◌, ◌++◌, length, map, slice_index_or}
use Rattle.std.specs.List.{range_with_len}
use Rattle.aes_lanes.specs.Bits.{bit_in}
use Rattle.aes_lanes.specs.declared.lanes.Row.{Row}
use Rattle.aes_lanes.specs.declared.lanes.State.{State}
use Rattle.aes_lanes.specs.declared.transpose.Four.{Four}

-- bit k of lane c, counted round
abbrev pub bits : List ℕ → ℕ → ℕ → ℕ
bits v c k = bit_in v c (k % 64)

-- bit k of two vectors f and g after each bit k + d of the first, where k / d is even, changed places with bit k of the second
abbrev pub first_lane_of : ℕ → (ℕ → ℕ) → (ℕ → ℕ) → ℕ → ℕ
first_lane_of d f g k = if k / d % 2 == 0 then f k else g (k - d)

abbrev pub second_of : ℕ → (ℕ → ℕ) → (ℕ → ℕ) → ℕ → ℕ
second_of d f g k = if k / d % 2 == 0 then f (k + d) else g k

pub record AreSwapped (d : ℕ) (a b x y : List ℕ) : Type 0 where
  pub first_lanes : length x ≡ 4
  pub second_lanes : length y ≡ 4
  pub first : (c k : ℕ) → c < 4 → bits x c k ≡ first_lane_of d (bits a c) (bits b c) (k % 64)
  pub second : (c k : ℕ) → c < 4 → bits y c k ≡ second_of d (bits a c) (bits b c) (k % 64)

-- entry i of vectors of bits
abbrev pub vector_at : List (ℕ → ℕ) → ℕ → ℕ → ℕ
vector_at fs i = slice_index_or fs i (λ k. 0)

-- eight vectors, where the matrix of 8 by 8 bits in each byte of a lane is transposed
abbrev pub row_transposed : List (ℕ → ℕ) → ℕ → ℕ → ℕ
row_transposed fs i k = vector_at fs (k % 8) (8 * (k / 8) + i)

-- four vectors, where the matrix of 4 by 4 bytes in each half of a lane is transposed
abbrev pub four_transposed : List (ℕ → ℕ) → ℕ → ℕ → ℕ
four_transposed fs i k = vector_at fs (k / 8 % 4) (32 * (k / 32) + 8 * i + k % 8)

-- thirty-two vectors, where the matrix of 32 by 32 bits in each half of a lane is transposed
abbrev pub transposed : List (ℕ → ℕ) → ℕ → ℕ → ℕ
transposed fs i k = vector_at fs (k % 32) (32 * (k / 32) + i)

-- the vectors as bits of lane c
abbrev pub row_vectors : Row → ℕ → List (ℕ → ℕ)
row_vectors v c = bits v.p0 c ∷ bits v.p1 c ∷ bits v.p2 c ∷ bits v.p3 c ∷ bits v.p4 c ∷ bits v.p5 c ∷ bits v.p6 c ∷ bits v.p7 c ∷ []

abbrev pub four_vectors : Four → ℕ → List (ℕ → ℕ)
four_vectors v c = bits v.a c ∷ bits v.b c ∷ bits v.c c ∷ bits v.d c ∷ []

abbrev pub state_vectors : State → ℕ → List (ℕ → ℕ)
state_vectors s c = row_vectors s.r0 c ++ row_vectors s.r1 c ++ row_vectors s.r2 c ++ row_vectors s.r3 c

-- in lane c the vectors of r are those of v, transposed
abbrev pub AreTransposedRow : Row → Row → ℕ → Type 0
AreTransposedRow v r c = row_vectors r c ≡ map (λ i k. row_transposed (row_vectors v c) i (k % 64)) (range_with_len 0 8)

abbrev pub AreTransposedFour : Four → Four → ℕ → Type 0
AreTransposedFour v r c = four_vectors r c ≡ map (λ i k. four_transposed (four_vectors v c) i (k % 64)) (range_with_len 0 4)

abbrev pub AreTransposed : State → State → ℕ → Type 0
AreTransposed v r c = state_vectors r c ≡ map (λ i k. transposed (state_vectors v c) i (k % 64)) (range_with_len 0 32)

pub record IsFour (v : Four) : Type 0 where
  pub la : length v.a ≡ 4
  pub lb : length v.b ≡ 4
  pub lc : length v.c ≡ 4
  pub ld : length v.d ≡ 4
