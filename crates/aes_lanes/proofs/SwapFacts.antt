-- The exchange of bits between two vectors.
use Rattle.std.proofs.Common.{◌≡◌, ℕ, zero, suc, ◌+◌, ◌-◌, ◌*◌, ◌/◌, ◌%◌, ◌^◌, ◌<◌, ◌≤◌, inl, inr, List, [], ◌∷◌, length, slice_index, get_or, ap, sym, ◌∙◌, refl, arith}
use Rattle.std.specs.Prelude.{bit_and, bit_xor, map, min, ◌==◌, if◌then◌else◌}
use Rattle.std.specs.Int.{bit_at}
use Rattle.std.specs.List.{range_with_len}
use Rattle.std.specs.Simd.Lanes.{zip2}
use Rattle.std.proofs.lemmas.Bool.{cases_lt}
use Rattle.std.proofs.lemmas.List.FromFn.{get_or-map-range_with_len}
use Rattle.std.proofs.lemmas.Nat.Bits.{bit_at-lt, bit_at-zero, bit_at_and, bit_at_xor, bit_at_cat_high, bit_at_cat_low}
use Rattle.aes_lanes.specs.Bits.{sum2}
use Rattle.aes_lanes.specs.Transposed.{AreSwapped, first_lane_of, second_of}
use Rattle.aes_lanes.proofs.KeyFacts.{bit_at-mod, bit_at-shr}

-- two functions that agree below 64
pub same64 : (f g : ℕ → ℕ) → map f (range_with_len 0 64) ≡ map g (range_with_len 0 64) → (x : ℕ) → x < 64 → f x ≡ g x
same64 f g e x lt =
    sym (get_or-map-range_with_len f 0 64 x x 0 lt (omega arith)) ∙ ap (λ (t : List ℕ). get_or t x 0) e
    ∙ get_or-map-range_with_len g 0 64 x x 0 lt (omega arith)

pub four_lanes : (v : List ℕ) → length v ≡ 4 → v ≡ slice_index v 0 ∷ slice_index v 1 ∷ slice_index v 2 ∷ slice_index v 3 ∷ []
four_lanes [] e = absurd (omega arith)
four_lanes (x0 ∷ []) e = absurd (omega arith)
four_lanes (x0 ∷ x1 ∷ []) e = absurd (omega arith)
four_lanes (x0 ∷ x1 ∷ x2 ∷ []) e = absurd (omega arith)
four_lanes (x0 ∷ x1 ∷ x2 ∷ x3 ∷ []) e = refl
four_lanes (x0 ∷ x1 ∷ x2 ∷ x3 ∷ x4 ∷ xs) e = absurd (omega arith)

abbrev part : ℕ → ℕ → ℕ → ℕ → ℕ
part d m x y = bit_and (bit_xor (x / 2 ^ d) y) m

abbrev part_vector : ℕ → ℕ → List ℕ → List ℕ → List ℕ
part_vector d m a b =
    zip2 bit_and (zip2 bit_xor (zip2 (λ x s. x / 2 ^ s) a (d ∷ d ∷ d ∷ d ∷ [])) b) (m ∷ m ∷ m ∷ m ∷ [])

abbrev pub first_vector : ℕ → ℕ → List ℕ → List ℕ → List ℕ
first_vector d m a b = zip2 bit_xor a (zip2 (λ x s. x * 2 ^ s % 2 ^ 64) (part_vector d m a b) (d ∷ d ∷ d ∷ d ∷ []))

abbrev pub second_vector : ℕ → ℕ → List ℕ → List ℕ → List ℕ
second_vector d m a b = zip2 bit_xor b (part_vector d m a b)

abbrev first_word : ℕ → ℕ → ℕ → ℕ → ℕ
first_word d m x y = bit_xor x (part d m x y * 2 ^ d % 2 ^ 64)

abbrev second_word : ℕ → ℕ → ℕ → ℕ → ℕ
second_word d m x y = bit_xor y (part d m x y)

first_lane : (d m : ℕ) (a b : List ℕ) (c : ℕ) → length a ≡ 4 → length b ≡ 4 → c < 4
    → slice_index (first_vector d m a b) c ≡ first_word d m (slice_index a c) (slice_index b c)
first_lane d m a b zero la lb hc = λ i. slice_index (first_vector d m (four_lanes a la i) (four_lanes b lb i)) 0
first_lane d m a b (suc zero) la lb hc = λ i. slice_index (first_vector d m (four_lanes a la i) (four_lanes b lb i)) 1
first_lane d m a b (suc (suc zero)) la lb hc = λ i. slice_index (first_vector d m (four_lanes a la i) (four_lanes b lb i)) 2
first_lane d m a b (suc (suc (suc zero))) la lb hc = λ i. slice_index (first_vector d m (four_lanes a la i) (four_lanes b lb i)) 3
first_lane d m a b (suc (suc (suc (suc c)))) la lb hc = absurd (omega arith)

second_lane : (d m : ℕ) (a b : List ℕ) (c : ℕ) → length a ≡ 4 → length b ≡ 4 → c < 4
    → slice_index (second_vector d m a b) c ≡ second_word d m (slice_index a c) (slice_index b c)
second_lane d m a b zero la lb hc = λ i. slice_index (second_vector d m (four_lanes a la i) (four_lanes b lb i)) 0
second_lane d m a b (suc zero) la lb hc = λ i. slice_index (second_vector d m (four_lanes a la i) (four_lanes b lb i)) 1
second_lane d m a b (suc (suc zero)) la lb hc = λ i. slice_index (second_vector d m (four_lanes a la i) (four_lanes b lb i)) 2
second_lane d m a b (suc (suc (suc zero))) la lb hc = λ i. slice_index (second_vector d m (four_lanes a la i) (four_lanes b lb i)) 3
second_lane d m a b (suc (suc (suc (suc c)))) la lb hc = absurd (omega arith)

-- what the distance d and the mask m have to do with each other
pub record IsMask (d m : ℕ) : Type 0 where
  pub some : 0 < 2 ^ d
  pub low : (k : ℕ) → k < d → k / d % 2 ≡ 0
  pub shifted : (k : ℕ) → d ≤ k → k < 64 → bit_at m (k - d) ≡ k / d % 2
  pub straight : (k : ℕ) → k < 64 → bit_at m k ≡ 1 - k / d % 2
  pub room : (k : ℕ) → k < 64 → k / d % 2 ≡ 0 → k + d < 64

kept : (b : ℕ) → b < 2 → sum2 b 0 ≡ b
kept b lt = omega arith

-- ---- the choice that a bit of the mask makes

none_of : (p q : ℕ) → p < 2 → q < 2 → sum2 p (min (sum2 p q) 0) ≡ p
none_of zero zero hp hq = refl
none_of zero (suc zero) hp hq = refl
none_of (suc zero) zero hp hq = refl
none_of (suc zero) (suc zero) hp hq = refl
none_of zero (suc (suc q)) hp hq = absurd (omega arith)
none_of (suc zero) (suc (suc q)) hp hq = absurd (omega arith)
none_of (suc (suc p)) q hp hq = absurd (omega arith)

all_of : (p q : ℕ) → p < 2 → q < 2 → sum2 p (min (sum2 p q) 1) ≡ q
all_of zero zero hp hq = refl
all_of zero (suc zero) hp hq = refl
all_of (suc zero) zero hp hq = refl
all_of (suc zero) (suc zero) hp hq = refl
all_of zero (suc (suc q)) hp hq = absurd (omega arith)
all_of (suc zero) (suc (suc q)) hp hq = absurd (omega arith)
all_of (suc (suc p)) q hp hq = absurd (omega arith)

sum2-comm : (p q : ℕ) → sum2 p q ≡ sum2 q p
sum2-comm p q = omega arith

first_choice : (t p q p' q' : ℕ) → t < 2 → p < 2 → q < 2 → p ≡ p' → q ≡ q' → sum2 p (min (sum2 p q) t) ≡ (if t == 0 then p' else q')
first_choice zero p q p' q' ht hp hq ep eq = none_of p q hp hq ∙ ep
first_choice (suc zero) p q p' q' ht hp hq ep eq = all_of p q hp hq ∙ eq
first_choice (suc (suc t)) p q p' q' ht hp hq ep eq = absurd (omega arith)

second_choice : (t p q p' q' : ℕ) → t < 2 → p < 2 → q < 2 → p ≡ p' → (t ≡ 0 → q ≡ q') → sum2 p (min (sum2 q p) (1 - t)) ≡ (if t == 0 then q' else p')
second_choice zero p q p' q' ht hp hq ep eq = ap (λ (n : ℕ). sum2 p (min n 1)) (sum2-comm q p) ∙ all_of p q hp hq ∙ eq refl
second_choice (suc zero) p q p' q' ht hp hq ep eq = ap (λ (n : ℕ). sum2 p (min n 0)) (sum2-comm q p) ∙ none_of p q hp hq ∙ ep
second_choice (suc (suc t)) p q p' q' ht hp hq ep eq = absurd (omega arith)

plus_zero : (n : ℕ) → n ≡ n + 0
plus_zero n = omega arith

even_choice : (t p q : ℕ) → t ≡ 0 → p ≡ (if t == 0 then p else q)
even_choice t p q e = sym (ap (λ (n : ℕ). if n == 0 then p else q) e)

pub first_bit : (d m x y k : ℕ) → IsMask d m → k < 64
    → bit_at (first_word d m x y) k ≡ first_lane_of d (λ n. bit_at x (n % 64)) (λ n. bit_at y (n % 64)) k
first_bit d m x y k h lt =
    let e1 : k ≡ k % 64 = omega arith in
    let t : ℕ = part d m x y in
    bit_at_xor x (t * 2 ^ d % 2 ^ 64) k ∙ ap (sum2 (bit_at x k)) (bit_at-mod (t * 2 ^ d) 64 k lt ∙ ap (λ (n : ℕ). bit_at n k) (plus_zero (t * 2 ^ d)))
    ∙ (elim (cases_lt k d) as (λ _. sum2 (bit_at x k) (bit_at (t * 2 ^ d + 0) k) ≡ first_lane_of d (λ n. bit_at x (n % 64)) (λ n. bit_at y (n % 64)) k) [
      | inl a ↦
          ap (sum2 (bit_at x k)) (bit_at_cat_low t d 0 k a ∙ bit_at-zero k) ∙ kept (bit_at x k) (bit_at-lt x k) ∙ ap (bit_at x) e1
          ∙ even_choice (k / d % 2) (bit_at x (k % 64)) (bit_at y ((k - d) % 64)) (h.low k a)
      | inr b ↦
          let e2 : d + (k - d) ≡ k = omega arith in
          let e3 : k - d ≡ (k - d) % 64 = omega arith in
          ap (sum2 (bit_at x k)) (bit_at_cat_high t d 0 k h.some b ∙ bit_at_and (bit_xor (x / 2 ^ d) y) m (k - d)
          ∙ (λ i. min ((bit_at_xor (x / 2 ^ d) y (k - d) ∙ ap (λ (n : ℕ). sum2 n (bit_at y (k - d))) (bit_at-shr x d (k - d)
          ∙ ap (bit_at x) e2)) i) (h.shifted k b lt i)))
          ∙ first_choice (k / d % 2) (bit_at x k) (bit_at y (k - d)) (bit_at x (k % 64)) (bit_at y ((k - d) % 64)) (omega arith) (bit_at-lt x k)
          (bit_at-lt y (k - d)) (ap (bit_at x) e1) (ap (bit_at y) e3)
    ])

pub second_bit : (d m x y k : ℕ) → IsMask d m → k < 64
    → bit_at (second_word d m x y) k ≡ second_of d (λ n. bit_at x (n % 64)) (λ n. bit_at y (n % 64)) k
second_bit d m x y k h lt =
    let e1 : k ≡ k % 64 = omega arith in
    let e2 : k / d % 2 ≡ 0 → d + k ≡ (k + d) % 64 = λ e. (let r = h.room k lt e in omega arith) in
    bit_at_xor y (part d m x y) k
    ∙ ap (sum2 (bit_at y k)) (bit_at_and (bit_xor (x / 2 ^ d) y) m k
    ∙ (λ i. min ((bit_at_xor (x / 2 ^ d) y k ∙ ap (λ (n : ℕ). sum2 n (bit_at y k)) (bit_at-shr x d k)) i) (h.straight k lt i)))
    ∙ second_choice (k / d % 2) (bit_at y k) (bit_at x (d + k)) (bit_at y (k % 64)) (bit_at x ((k + d) % 64)) (omega arith) (bit_at-lt y k)
    (bit_at-lt x (d + k)) (ap (bit_at y) e1) (λ e. ap (bit_at x) (e2 e))

pub swapped : (d m : ℕ) (a b : List ℕ) → IsMask d m → length a ≡ 4 → length b ≡ 4 → AreSwapped d a b (first_vector d m a b) (second_vector d m a b)
swapped d m a b h la lb = record {
  first_lanes = λ i. length (first_vector d m (four_lanes a la i) (four_lanes b lb i));
  second_lanes = λ i. length (second_vector d m (four_lanes a la i) (four_lanes b lb i));
  first = λ c k hc. ap (λ (n : ℕ). bit_at n (k % 64)) (first_lane d m a b c la lb hc)
      ∙ first_bit d m (slice_index a c) (slice_index b c) (k % 64) h (omega arith);
  second = λ c k hc. ap (λ (n : ℕ). bit_at n (k % 64)) (second_lane d m a b c la lb hc)
      ∙ second_bit d m (slice_index a c) (slice_index b c) (k % 64) h (omega arith);
}

straight1 : (k : ℕ) → k < 64 → bit_at 6148914691236517205 k ≡ 1 - k / 1 % 2
straight1 = same64 (bit_at 6148914691236517205) (λ (k : ℕ). 1 - k / 1 % 2) refl

pub mask1 : IsMask 1 6148914691236517205
mask1 = record {
  some = omega arith;
  low = λ k lt. omega arith;
  shifted = λ k le lt. straight1 (k - 1) (omega arith) ∙ omega arith;
  straight = straight1;
  room = λ k lt e. omega arith;
}

straight2 : (k : ℕ) → k < 64 → bit_at 3689348814741910323 k ≡ 1 - k / 2 % 2
straight2 = same64 (bit_at 3689348814741910323) (λ (k : ℕ). 1 - k / 2 % 2) refl

pub mask2 : IsMask 2 3689348814741910323
mask2 = record {
  some = omega arith;
  low = λ k lt. omega arith;
  shifted = λ k le lt. straight2 (k - 2) (omega arith) ∙ omega arith;
  straight = straight2;
  room = λ k lt e. omega arith;
}

straight4 : (k : ℕ) → k < 64 → bit_at 1085102592571150095 k ≡ 1 - k / 4 % 2
straight4 = same64 (bit_at 1085102592571150095) (λ (k : ℕ). 1 - k / 4 % 2) refl

pub mask4 : IsMask 4 1085102592571150095
mask4 = record {
  some = omega arith;
  low = λ k lt. omega arith;
  shifted = λ k le lt. straight4 (k - 4) (omega arith) ∙ omega arith;
  straight = straight4;
  room = λ k lt e. omega arith;
}

straight8 : (k : ℕ) → k < 64 → bit_at 71777214294589695 k ≡ 1 - k / 8 % 2
straight8 = same64 (bit_at 71777214294589695) (λ (k : ℕ). 1 - k / 8 % 2) refl

pub mask8 : IsMask 8 71777214294589695
mask8 = record {
  some = omega arith;
  low = λ k lt. omega arith;
  shifted = λ k le lt. straight8 (k - 8) (omega arith) ∙ omega arith;
  straight = straight8;
  room = λ k lt e. omega arith;
}

straight16 : (k : ℕ) → k < 64 → bit_at 281470681808895 k ≡ 1 - k / 16 % 2
straight16 = same64 (bit_at 281470681808895) (λ (k : ℕ). 1 - k / 16 % 2) refl

pub mask16 : IsMask 16 281470681808895
mask16 = record {
  some = omega arith;
  low = λ k lt. omega arith;
  shifted = λ k le lt. straight16 (k - 16) (omega arith) ∙ omega arith;
  straight = straight16;
  room = λ k lt e. omega arith;
}
