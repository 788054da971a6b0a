-- What vectors hold: words of four messages, and their hash values.
use Rattle.std.specs.Prelude.{◌≡◌, ℕ, ◌+◌, ◌-◌, ◌%◌, ◌<◌, List, [], ◌∷◌, length, slice_index, slice_index_or}
use Rattle.sha2.specs.Sha512.{rounds, schedule}

-- a vector: of message i, from 0 to 3, the word f i
abbrev pub four : (ℕ → ℕ) → List ℕ
four f = f 0 ∷ f 1 ∷ f 2 ∷ f 3 ∷ []

-- word k of each list
abbrev pub across : (ℕ → List ℕ) → ℕ → List ℕ
across H k = four (λ i. slice_index (H i) k)

-- eight vectors: of message i the eight words of H i
abbrev pub words : (ℕ → List ℕ) → List (List ℕ)
words H = across H 0 ∷ across H 1 ∷ across H 2 ∷ across H 3 ∷ across H 4 ∷ across H 5 ∷ across H 6 ∷ across H 7 ∷ []

-- the windows of 16 words before t of the schedules of four blocks: word s, from t - 16 on, is at place s % 16
abbrev pub AreWindows : (ℕ → List ℕ) → List (List ℕ) → ℕ → Type 0
AreWindows B w t = (length w ≡ 16)
    × ((k : ℕ) → k < 16 → slice_index_or w ((t + k) % 16) [] ≡ four (λ i. slice_index (schedule (B i) 64) (t + k - 16)))

-- after t rounds of the blocks B from the hash values H, the windows are w and the working variables are v
abbrev pub AreAtRound : (ℕ → List ℕ) → (ℕ → List ℕ) → List (List ℕ) → List (List ℕ) → ℕ → Type 0
AreAtRound B H w v t = AreWindows B w t × (v ≡ words (λ i. rounds (H i) (schedule (B i) 64) t))
