-- The exclusive or of two lists, place by place.
use Rattle.std.proofs.Common.{◌≡◌, ℕ, zero, suc, ◌<◌, List, [], ◌∷◌, length, get_or, bit_xor, refl, ap, arith}
use Rattle.hmac_core.specs.Pbkdf2.{xor_bytes}

pub length-xor_bytes : (xs ys : List ℕ) → length xs ≡ length ys → length (xor_bytes xs ys) ≡ length xs
unfolding xor_bytes
length-xor_bytes [] ys e = refl
length-xor_bytes (x ∷ xs) [] e = absurd (omega (arith, e))
length-xor_bytes (x ∷ xs) (y ∷ ys) e = ap suc (length-xor_bytes xs ys (omega (arith, e)))

pub get_or-xor_bytes : (xs ys : List ℕ) (k : ℕ) → length xs ≡ length ys → k < length xs
    → get_or (xor_bytes xs ys) k 0 ≡ bit_xor (get_or xs k 0) (get_or ys k 0)
unfolding xor_bytes
get_or-xor_bytes [] ys k e h = absurd (omega (arith, h))
get_or-xor_bytes (x ∷ xs) [] k e h = absurd (omega (arith, e))
get_or-xor_bytes (x ∷ xs) (y ∷ ys) zero e h = refl
get_or-xor_bytes (x ∷ xs) (y ∷ ys) (suc k) e h =
    get_or-xor_bytes xs ys k (omega (arith, e)) (omega (arith, h))
