-- A block of PBKDF2 as its loop makes it: the sum of the links so far, and what the links to come add.
use Rattle.std.proofs.Common.{◌≡◌, ℕ, zero, suc, ◌-◌, ◌≤◌, List, ◌++◌, fold, refl, ap, arith}
use Rattle.std.specs.Int.{w32, to_be_bytes}
use Rattle.hmac_core.specs.Pbkdf2.{xor_bytes, xor_of, links, derived_block}

-- the sum so far, exclusive or the next n links after this one
abbrev pub summed : (List ℕ → List ℕ) → List ℕ → List ℕ → ℕ → List ℕ
summed prf sum link n = fold xor_bytes sum (links prf link n)

-- the first link is the sum of one, and rounds - 1 are to come
pub summed-first : (prf : List ℕ → List ℕ) (salt link sum : List ℕ) (rounds i : ℕ) → 1 ≤ rounds
    → link ≡ prf (salt ++ to_be_bytes w32 i) → sum ≡ link
    → summed prf sum link (rounds - 1) ≡ derived_block prf salt rounds i
unfolding links xor_of derived_block
summed-first prf salt link sum zero i positive is_link is_sum = absurd (omega (arith, positive))
summed-first prf salt link sum (suc n) i positive is_link is_sum =
    let fewer : suc n - 1 ≡ n = omega arith in
    cc (fewer, is_link, is_sum)

-- a round takes one link more
pub summed-next : (prf : List ℕ → List ℕ) (sum link sum' link' : List ℕ) (n k : ℕ) → n ≡ suc k
    → link' ≡ prf link → sum' ≡ xor_bytes sum link' → summed prf sum' link' k ≡ summed prf sum link n
unfolding links
summed-next prf sum link sum' link' n k more is_link is_sum =
    let step : summed prf sum link (suc k) ≡ summed prf (xor_bytes sum (prf link)) (prf link) k = refl in
    cc (more, step, is_link, is_sum)

-- where none is to come, the sum is the block
pub summed-last : (prf : List ℕ → List ℕ) (sum link : List ℕ) (n : ℕ) → n ≡ 0 → summed prf sum link n ≡ sum
unfolding links
summed-last prf sum link n none = ap (summed prf sum link) none
