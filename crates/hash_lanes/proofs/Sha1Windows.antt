-- The windows of eight schedules of SHA-1: which words are at each place, and how they follow them.
use Rattle.std.proofs.Common.{◌≡◌, ◌≢◌, ℕ, ◌+◌, ◌-◌, ◌*◌, ◌%◌, ◌<◌, ◌≤◌, List, [], ◌∷◌, length, slice_index, take, drop, sym, ap, ◌∙◌, arith, add-one, inl, inr, refl}
use Rattle.std.specs.Prelude.{bit_xor, slice_index_or, slice_set}
use Rattle.std.specs.Int.{w32, from_be_bytes, rotate_left}
use Rattle.std.proofs.lemmas.List.{drop-drop, get_or-drop, get_or-set_other, get_or-set_same, get_or-take, length-set}
use Rattle.std.proofs.lemmas.Bool.{cases_lt}
use Rattle.sha1.specs.Sha1.{compress, next_word, round, round_constant, round_fn, rounds, schedule, word_at}
use Rattle.sha1.proofs.Schedule.{rounds_next, slice_index-schedule_first, slice_index-schedule_next}
use Rattle.hash_lanes.specs.Sha1Lanes.{AreAtRound, AreWindows, eight, five, hash_from}

-- ---- a block of a text

byte_in_block : (text : List ℕ) (at j m : ℕ) → j < 64 → at + j ≡ m → slice_index (take 64 (drop at text)) j ≡ slice_index text m
byte_in_block text at j m lt e = get_or-take 64 (drop at text) j 0 lt ∙ get_or-drop at text j 0 ∙ ap (slice_index text) e

pub word_in_block : (text : List ℕ) (at j m : ℕ) → j + 4 ≤ 64 → at + j ≡ m → word_at text m ≡ word_at (take 64 (drop at text)) j
word_in_block text at j m within e = λ t. from_be_bytes w32
    (sym (byte_in_block text at j m (omega arith) (omega arith)) t
    ∷ sym (byte_in_block text at (j + 1) (m + 1) (omega arith) (omega arith)) t
    ∷ sym (byte_in_block text at (j + 2) (m + 2) (omega arith) (omega arith)) t
    ∷ sym (byte_in_block text at (j + 3) (m + 3) (omega arith) (omega arith)) t ∷ [])

-- ---- windows

-- the windows that the blocks' first 16 words fill
pub windows_first : (B : ℕ → List ℕ) (w : List (List ℕ)) → length w ≡ 16
    → ((k : ℕ) → k < 16 → slice_index_or w k [] ≡ eight (λ i. word_at (B i) (4 * k))) → AreWindows B w 16
windows_first B w long h = (
  long,
  λ k lt.
      let at : (16 + k) % 16 ≡ k = omega arith in
      let place : 16 + k - 16 ≡ k = omega arith in
      rw (at, place) (h k lt ∙ (λ t. eight (λ i. sym (slice_index-schedule_first (B i) 64 k lt) t))),
)

-- word d of the schedules, in the windows before t
pub words_at : (B : ℕ → List ℕ) (w : List (List ℕ)) (t i p d : ℕ) → AreWindows B w t → i < 16 → p % 16 ≡ (t + i) % 16 → t + i ≡ d + 16
    → slice_index_or w (p % 16) [] ≡ eight (λ m. slice_index (schedule (B m) 64) d)
words_at B w t i p d held lt place e =
    ap (λ (k : ℕ). slice_index_or w k []) place ∙ held.1 i lt
    ∙ ap (λ (k : ℕ). eight (λ m. slice_index (schedule (B m) 64) k)) (omega arith)

-- word t of the schedules follows from those before it
words_next : (B : ℕ → List ℕ) (t : ℕ) → 16 ≤ t → t < 80
    → eight (λ i. next_word (schedule (B i) 64) t) ≡ eight (λ i. slice_index (schedule (B i) 64) t)
words_next B t low high = λ s. eight (λ i. sym (slice_index-schedule_next (B i) 64 t low (omega arith)) s)

-- what is made of four words of the windows is word t
pub word_made : (B : ℕ → List ℕ) (w : List (List ℕ)) (t : ℕ) (x : List ℕ) → 16 ≤ t → t < 80 → AreWindows B w t
    → ((f13 f8 f2 f0 : ℕ → ℕ) → slice_index_or w ((t + 13) % 16) [] ≡ eight f13 → slice_index_or w ((t + 8) % 16) [] ≡ eight f8
    → slice_index_or w ((t + 2) % 16) [] ≡ eight f2 → slice_index_or w (t % 16) [] ≡ eight f0
    → x ≡ eight (λ i. rotate_left w32 (bit_xor (bit_xor (bit_xor (f13 i) (f8 i)) (f2 i)) (f0 i)) 1))
    → x ≡ eight (λ i. slice_index (schedule (B i) 64) t)
word_made B w t x low high held value =
    value (λ i. slice_index (schedule (B i) 64) (t - 3)) (λ i. slice_index (schedule (B i) 64) (t - 8))
    (λ i. slice_index (schedule (B i) 64) (t - 14)) (λ i. slice_index (schedule (B i) 64) (t - 16))
    (words_at B w t 13 (t + 13) (t - 3) held (omega arith) refl (omega arith))
    (words_at B w t 8 (t + 8) (t - 8) held (omega arith) refl (omega arith))
    (words_at B w t 2 (t + 2) (t - 14) held (omega arith) refl (omega arith))
    (words_at B w t 0 t (t - 16) held (omega arith) (omega arith) (omega arith))
    ∙ words_next B t low high

-- the windows one word on
pub windows_next : (B : ℕ → List ℕ) (w : List (List ℕ)) (t p : ℕ) (x : List ℕ) → 16 ≤ t → AreWindows B w t → p ≡ t % 16
    → x ≡ eight (λ i. slice_index (schedule (B i) 64) t) → AreWindows B (slice_set w p x) (t + 1)
windows_next B w t p x low held place is = (
  length-set w p x ∙ held.0,
  λ k lt. elim (cases_lt k 15)
      as (λ _. slice_index_or (slice_set w p x) ((t + 1 + k) % 16) [] ≡ eight (λ i. slice_index (schedule (B i) 64) (t + 1 + k - 16))) [
        | inl less ↦
            let other : (t + 1 + k) % 16 ≢ p = omega arith in
            get_or-set_other w p ((t + 1 + k) % 16) x [] other
            ∙ words_at B w t (k + 1) (t + 1 + k) (t + 1 + k - 16) held (omega arith) (ap (λ (n : ℕ). n % 16) (omega arith)) (omega arith)
        | inr last ↦
            let same : (t + 1 + k) % 16 ≡ p = omega arith in
            let word : t + 1 + k - 16 ≡ t = omega arith in
            rw (same, word) (get_or-set_same w p x [] (omega (arith, held.0)) ∙ is)
      ],
)

-- one of the first 16 words, in the first windows
pub first_words_at : (B : ℕ → List ℕ) (w : List (List ℕ)) (t : ℕ) → AreWindows B w 16 → t < 16
    → slice_index_or w t [] ≡ eight (λ i. slice_index (schedule (B i) 64) t)
first_words_at B w t held lt =
    let at : t % 16 ≡ t = omega arith in
    ap (λ (k : ℕ). slice_index_or w k []) (sym at) ∙ words_at B w 16 t t t held lt (omega arith) (omega arith)

-- ---- rounds

-- one round more, where k is its constant and f its function
pub rounds_more : (B H : ℕ → List ℕ) (t k : ℕ) (f : ℕ → ℕ → ℕ → ℕ) (next : List (List ℕ)) → k ≡ round_constant t
    → ((x y z : ℕ) → f x y z ≡ round_fn t x y z)
    → next ≡ five (λ i. round (rounds (H i) (schedule (B i) 64) t) (f (slice_index (rounds (H i) (schedule (B i) 64) t) 1)
    (slice_index (rounds (H i) (schedule (B i) 64) t) 2) (slice_index (rounds (H i) (schedule (B i) 64) t) 3)) k
    (slice_index (schedule (B i) 64) t))
    → next ≡ five (λ i. rounds (H i) (schedule (B i) 64) (t + 1))
rounds_more B H t k f next constant same is =
    let R : ℕ → List ℕ = λ i. rounds (H i) (schedule (B i) 64) t in
    is
    ∙ (λ s. five (λ i. round (R i) (same (slice_index (R i) 1) (slice_index (R i) 2) (slice_index (R i) 3) s) (constant s)
    (slice_index (schedule (B i) 64) t)))
    ∙ (λ s. five (λ i. sym (rounds_next (H i) (schedule (B i) 64) t) s))

-- the same place, spelled another way
pub at_round : (B H : ℕ → List ℕ) (w v : List (List ℕ)) (n k : ℕ) → n ≡ k → AreAtRound B H w v n → AreAtRound B H w v k
at_round B H w v n k e held = rw (← e) held

pub rounds_at : (B H : ℕ → List ℕ) (v : List (List ℕ)) (n k : ℕ) → n ≡ k → v ≡ five (λ i. rounds (H i) (schedule (B i) 64) n)
    → v ≡ five (λ i. rounds (H i) (schedule (B i) 64) k)
rounds_at B H v n k e held = rw (← e) held

-- ---- blocks

hash_from_next : (h text : List ℕ) (n : ℕ) → hash_from h text (n + 1) ≡ compress (hash_from h text n) (take 64 (drop (n * 64) text))
unfolding hash_from
hash_from_next h text n = rw add-one refl

-- a block more of a text
pub block_more : (h text : List ℕ) (k at m : ℕ) → m ≡ 64 * k + at
    → compress (hash_from h (drop at text) k) (take 64 (drop m text)) ≡ hash_from h (drop at text) (k + 1)
block_more h text k at m e =
    let place : m ≡ at + k * 64 = omega arith in
    ap (λ (n : ℕ). compress (hash_from h (drop at text) k) (take 64 (drop n text))) place
    ∙ ap (λ (b : List ℕ). compress (hash_from h (drop at text) k) (take 64 b)) (sym (drop-drop (k * 64) at text))
    ∙ sym (hash_from_next h (drop at text) k)
