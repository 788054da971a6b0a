-- Lists of bytes, and their sums.
use Rattle.std.proofs.Common.{◌≡◌, ℕ, zero, suc, ◌<◌, List, [], ◌∷◌, ◌++◌, length, take, drop, ap, ◌∙◌, arith, refl}
use Rattle.std.specs.Prelude.{bit_xor, map}
use Rattle.std.proofs.lemmas.Nat.{xor_lt}
use lib.Bits.{xor_assoc, xor_self, xor_zero_r}
use Rattle.aes_block.specs.Aes.{AreBytes, IsBlock, xor_bytes}

-- bytes, element by element
abbrev pub Each : List ℕ → Type 0
Each [] = Unit {0}
Each (x ∷ xs) = (x < 256) × Each xs

pub bytes_from_each : (xs : List ℕ) → Each xs → AreBytes xs
bytes_from_each [] h zero = omega arith
bytes_from_each [] h (suc i) = omega arith
bytes_from_each (x ∷ xs) h zero = h.0
bytes_from_each (x ∷ xs) h (suc i) = bytes_from_each xs h.1 i

pub each_from_bytes : (xs : List ℕ) → AreBytes xs → Each xs
each_from_bytes [] h = tt
each_from_bytes (x ∷ xs) h = (h 0, each_from_bytes xs (λ i. h (suc i)))

pub each_map : (f : ℕ → ℕ) → ((x : ℕ) → x < 256 → f x < 256) → (xs : List ℕ) → Each xs → Each (map f xs)
each_map f h [] e = tt
each_map f h (x ∷ xs) e = (h x e.0, each_map f h xs e.1)

pub map_undone : (f g : ℕ → ℕ) → ((x : ℕ) → x < 256 → g (f x) ≡ x) → (xs : List ℕ) → Each xs → map g (map f xs) ≡ xs
map_undone f g h [] e = refl
map_undone f g h (x ∷ xs) e = λ i. h x e.0 i ∷ map_undone f g h xs e.1 i

-- ---- parts of lists

pub AreBytes-append : (a b : List ℕ) → AreBytes a → AreBytes b → AreBytes (a ++ b)
AreBytes-append [] b ha hb i = hb i
AreBytes-append (x ∷ a) b ha hb zero = ha 0
AreBytes-append (x ∷ a) b ha hb (suc i) = AreBytes-append a b (λ k. ha (suc k)) hb i

pub AreBytes-drop : (n : ℕ) (a : List ℕ) → AreBytes a → AreBytes (drop n a)
AreBytes-drop zero a h = h
AreBytes-drop (suc n) [] h = h
AreBytes-drop (suc n) (x ∷ a) h = AreBytes-drop n a (λ k. h (suc k))

pub AreBytes-take : (n : ℕ) (a : List ℕ) → AreBytes a → AreBytes (take n a)
AreBytes-take zero a h i = omega arith
AreBytes-take (suc n) [] h i = h i
AreBytes-take (suc n) (x ∷ a) h zero = h 0
AreBytes-take (suc n) (x ∷ a) h (suc i) = AreBytes-take n a (λ k. h (suc k)) i

-- ---- sums

pub each_xor : (xs ys : List ℕ) → Each xs → Each ys → Each (xor_bytes xs ys)
each_xor [] ys e f = tt
each_xor (x ∷ xs) [] e f = tt
each_xor (x ∷ xs) (y ∷ ys) e f = (xor_lt 8 x y e.0 f.0, each_xor xs ys e.1 f.1)

pub length-xor : (xs ys : List ℕ) → length xs ≡ length ys → length (xor_bytes xs ys) ≡ length xs
length-xor [] ys e = refl
length-xor (x ∷ xs) [] e = absurd (omega arith)
length-xor (x ∷ xs) (y ∷ ys) e = ap suc (length-xor xs ys (omega arith))

-- a sum with one summand added again is the other
pub xor_twice : (xs ys : List ℕ) → length xs ≡ length ys → xor_bytes (xor_bytes xs ys) ys ≡ xs
xor_twice [] ys e = refl
xor_twice (x ∷ xs) [] e = absurd (omega arith)
xor_twice (x ∷ xs) (y ∷ ys) e =
    λ i. (xor_assoc x y y ∙ ap (bit_xor x) (xor_self y) ∙ xor_zero_r x) i ∷ xor_twice xs ys (omega arith) i

pub IsBlock-xor : (s k : List ℕ) → IsBlock s → IsBlock k → IsBlock (xor_bytes s k)
IsBlock-xor s k hs hk =
    (length-xor s k (omega arith) ∙ hs.0, bytes_from_each _ (each_xor s k (each_from_bytes s hs.1) (each_from_bytes k hk.1)))
