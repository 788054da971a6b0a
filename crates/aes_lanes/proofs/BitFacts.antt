-- A number and its bits.
use Rattle.std.proofs.Common.{◌≡◌, ℕ, zero, suc, ◌+◌, ◌*◌, ◌/◌, ◌<◌, List, [], ◌∷◌, slice_index, ap, sym, ◌∙◌, arith}
use Rattle.std.specs.Prelude.{map}
use Rattle.std.specs.Int.{bit_at}
use Rattle.std.specs.List.{range_with_len}
use Rattle.std.proofs.lemmas.List.FromFn.{get_or-map-range_with_len}
use Rattle.std.proofs.Common.{get_or}
use Rattle.std.proofs.lemmas.Nat.Bits.{bit_at_lowest, bit_at-suc, bit_at-zero}
use Rattle.aes_lanes.specs.Bits.{bits_of, number}

lowest : (b n : ℕ) → b < 2 → bit_at (b + 2 * n) 0 ≡ b
lowest b n lt = bit_at_lowest (b + 2 * n) ∙ omega arith

higher : (b n i : ℕ) → b < 2 → bit_at (b + 2 * n) (suc i) ≡ bit_at n i
higher b n i lt =
    let e : (b + 2 * n) / 2 ≡ n = omega arith in
    bit_at-suc (b + 2 * n) i ∙ ap (λ (m : ℕ). bit_at m i) e

pub bit_at-number : (bs : List ℕ) → ((k : ℕ) → slice_index bs k < 2) → (i : ℕ) → bit_at (number bs) i ≡ slice_index bs i
bit_at-number [] h zero = bit_at-zero zero
bit_at-number [] h (suc i) = bit_at-zero (suc i)
bit_at-number (b ∷ bs) h zero = lowest b (number bs) (h 0)
bit_at-number (b ∷ bs) h (suc i) = higher b (number bs) i (h 0) ∙ bit_at-number bs (λ k. h (suc k)) i

-- the bits of a byte that is made of eight bits
pub bits_of-number : (b0 b1 b2 b3 b4 b5 b6 b7 : ℕ) → b0 < 2 → b1 < 2 → b2 < 2 → b3 < 2 → b4 < 2 → b5 < 2 → b6 < 2 → b7 < 2
    → bits_of (number (b0 ∷ b1 ∷ b2 ∷ b3 ∷ b4 ∷ b5 ∷ b6 ∷ b7 ∷ [])) ≡ b0 ∷ b1 ∷ b2 ∷ b3 ∷ b4 ∷ b5 ∷ b6 ∷ b7 ∷ []
bits_of-number b0 b1 b2 b3 b4 b5 b6 b7 h0 h1 h2 h3 h4 h5 h6 h7 =
    let bs : List ℕ = b0 ∷ b1 ∷ b2 ∷ b3 ∷ b4 ∷ b5 ∷ b6 ∷ b7 ∷ [] in
    let n : ℕ = number bs in
    let n1 : ℕ = number (b1 ∷ b2 ∷ b3 ∷ b4 ∷ b5 ∷ b6 ∷ b7 ∷ []) in
    let n2 : ℕ = number (b2 ∷ b3 ∷ b4 ∷ b5 ∷ b6 ∷ b7 ∷ []) in
    let n3 : ℕ = number (b3 ∷ b4 ∷ b5 ∷ b6 ∷ b7 ∷ []) in
    let n4 : ℕ = number (b4 ∷ b5 ∷ b6 ∷ b7 ∷ []) in
    let n5 : ℕ = number (b5 ∷ b6 ∷ b7 ∷ []) in
    let n6 : ℕ = number (b6 ∷ b7 ∷ []) in
    let n7 : ℕ = number (b7 ∷ []) in
    λ i. lowest b0 n1 h0 i
    ∷ (higher b0 n1 0 h0 ∙ lowest b1 n2 h1) i
    ∷ (higher b0 n1 1 h0 ∙ higher b1 n2 0 h1 ∙ lowest b2 n3 h2) i
    ∷ (higher b0 n1 2 h0 ∙ higher b1 n2 1 h1 ∙ higher b2 n3 0 h2 ∙ lowest b3 n4 h3) i
    ∷ (higher b0 n1 3 h0 ∙ higher b1 n2 2 h1 ∙ higher b2 n3 1 h2 ∙ higher b3 n4 0 h3 ∙ lowest b4 n5 h4) i
    ∷ (higher b0 n1 4 h0 ∙ higher b1 n2 3 h1 ∙ higher b2 n3 2 h2 ∙ higher b3 n4 1 h3 ∙ higher b4 n5 0 h4 ∙ lowest b5 n6 h5) i
    ∷ (higher b0 n1 5 h0 ∙ higher b1 n2 4 h1 ∙ higher b2 n3 3 h2 ∙ higher b3 n4 2 h3 ∙ higher b4 n5 1 h4 ∙ higher b5 n6 0 h5 ∙ lowest b6 n7 h6) i
    ∷ (higher b0 n1 6 h0 ∙ higher b1 n2 5 h1 ∙ higher b2 n3 4 h2 ∙ higher b3 n4 3 h3 ∙ higher b4 n5 2 h4 ∙ higher b5 n6 1 h5 ∙ higher b6 n7 0 h6
    ∙ lowest b7 0 h7) i ∷ []

pub number-lt : (b0 b1 b2 b3 b4 b5 b6 b7 : ℕ) → b0 < 2 → b1 < 2 → b2 < 2 → b3 < 2 → b4 < 2 → b5 < 2 → b6 < 2 → b7 < 2
    → number (b0 ∷ b1 ∷ b2 ∷ b3 ∷ b4 ∷ b5 ∷ b6 ∷ b7 ∷ []) < 256
number-lt b0 b1 b2 b3 b4 b5 b6 b7 h0 h1 h2 h3 h4 h5 h6 h7 = omega arith

pub tested : (f g : ℕ → ℕ) → map f (range_with_len 0 256) ≡ map g (range_with_len 0 256) → (x : ℕ) → x < 256 → f x ≡ g x
tested f g e x lt =
    sym (get_or-map-range_with_len f 0 256 x x 0 lt (omega arith)) ∙ ap (λ (t : List ℕ). get_or t x 0) e
    ∙ get_or-map-range_with_len g 0 256 x x 0 lt (omega arith)
