-- PBKDF2 (RFC 8018, section 5.2) over HMAC with any hash, for a key of 32 bytes. Steps are those of the section.
use Rattle.std.specs.Prelude.{ℕ, zero, suc, List, [], ◌∷◌, ◌++◌, take, fold, bit_xor}
use Rattle.std.specs.Int.{w32, div_ceil, to_be_bytes}
use Rattle.hmac_core.specs.Hmac.{hmac}

-- the exclusive or of two lists of one length, byte by byte
unfoldable pub xor_bytes : List ℕ → List ℕ → List ℕ
xor_bytes [] _ = []
xor_bytes (_ ∷ _) [] = []
xor_bytes (x ∷ xs) (y ∷ ys) = bit_xor x y ∷ xor_bytes xs ys

-- the exclusive or of all of these lists
unfoldable pub xor_of : List (List ℕ) → List ℕ
xor_of [] = []
xor_of (first ∷ others) = fold xor_bytes first others

-- U_1 to U_n (step 3): the first is what the function gives of the seed, and each other what it gives
-- of the one before
unfoldable pub links : (List ℕ → List ℕ) → List ℕ → ℕ → List (List ℕ)
links prf seed zero = []
links prf seed (suc n) = prf seed ∷ links prf (prf seed) n

-- T_i (step 3): the exclusive or of U_1 to U_rounds, where the seed is the salt and then i, as four
-- big-endian bytes
unfoldable pub derived_block : (List ℕ → List ℕ) → List ℕ → ℕ → ℕ → List ℕ
derived_block prf salt rounds i = xor_of (links prf (salt ++ to_be_bytes w32 i) rounds)

-- T_1 to T_n, joined (step 4)
unfoldable pub derived_blocks : (List ℕ → List ℕ) → List ℕ → ℕ → ℕ → List ℕ
derived_blocks prf salt rounds zero = []
derived_blocks prf salt rounds (suc n) =
    derived_blocks prf salt rounds n ++ derived_block prf salt rounds (suc n)

-- the first 32 bytes of as many blocks as they need (steps 2 and 4); `block` is the hash's block and `out`
-- its length, in bytes
unfoldable pub derived_key : (List ℕ → List ℕ) → ℕ → ℕ → List ℕ → List ℕ → ℕ → List ℕ
derived_key hash block out password salt rounds =
    take 32 (derived_blocks (hmac hash block password) salt rounds (div_ceil 32 out))
