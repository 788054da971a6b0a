-- Blocks as words, and as the bits of transposed words.
use Rattle.std.proofs.Common.{◌≡◌, ℕ, zero, suc, ◌+◌, ◌*◌, ◌/◌, ◌%◌, ◌^◌, ◌<◌, ◌≤◌, List, [], ◌∷◌, ◌++◌, length, slice_index, drop, ap, sym, ◌∙◌, refl, arith}
use Rattle.std.specs.Prelude.{map, slice_index_or}
use Rattle.std.specs.Int.{bit_at, to_le_bytes, w64}
use Rattle.std.specs.List.{range_with_len}
use Rattle.std.proofs.lemmas.List.{get_or-drop, get_or-map, get_or-take, length-drop, length-take-le}
use Rattle.std.proofs.lemmas.List.FromFn.{fill_by_all, get_or-map-range_with_len}
use Rattle.std.proofs.lemmas.Nat.{pow-add}
use Rattle.std.proofs.Math.Nat.{div-div-eq-div-mul}
use Rattle.aes_block.specs.Blocks.{block_at}
use Rattle.aes_lanes.specs.Bits.{bit_in, number}
use Rattle.aes_lanes.specs.Blocks.{word_bytes, word_bits}
use Rattle.aes_lanes.specs.Planes.{byte_in}
use Rattle.aes_lanes.specs.Transposed.{bits, row_vectors, transposed, vector_at}
use Rattle.aes_lanes.specs.declared.lanes.Row.{Row}
use Rattle.aes_lanes.proofs.KeyFacts.{again, bit_of_byte, eight_bits, lowest_byte}

-- the bytes of a word that is made of eight bytes of t
abbrev pub IsWordAt : ℕ → List ℕ → ℕ → Type 0
IsWordAt x t a = to_le_bytes w64 x ≡ slice_index t a ∷ slice_index t (a + 1) ∷ slice_index t (a + 2) ∷ slice_index t (a + 3)
    ∷ slice_index t (a + 512) ∷ slice_index t (a + 513) ∷ slice_index t (a + 514) ∷ slice_index t (a + 515) ∷ []

part_byte : (x : ℕ) (t : List ℕ) (a : ℕ) → IsWordAt x t a → (q : ℕ) → q < 8
    → x / 2 ^ (8 * q) % 256 ≡ slice_index t (512 * (q / 4) + a + q % 4)
part_byte x t a e zero lt =
    let i : a ≡ 512 * (0 / 4) + a + 0 % 4 = omega arith in
    lowest_byte x ∙ ap (λ (l : List ℕ). slice_index l 0) e ∙ ap (slice_index t) i
part_byte x t a e (suc zero) lt =
    let i : a + 1 ≡ 512 * (1 / 4) + a + 1 % 4 = omega arith in
    ap (λ (l : List ℕ). slice_index l 1) e ∙ ap (slice_index t) i
part_byte x t a e (suc (suc zero)) lt =
    let i : a + 2 ≡ 512 * (2 / 4) + a + 2 % 4 = omega arith in
    ap (λ (l : List ℕ). slice_index l 2) e ∙ ap (slice_index t) i
part_byte x t a e (suc (suc (suc zero))) lt =
    let i : a + 3 ≡ 512 * (3 / 4) + a + 3 % 4 = omega arith in
    ap (λ (l : List ℕ). slice_index l 3) e ∙ ap (slice_index t) i
part_byte x t a e (suc (suc (suc (suc zero)))) lt =
    let i : a + 512 ≡ 512 * (4 / 4) + a + 4 % 4 = omega arith in
    ap (λ (l : List ℕ). slice_index l 4) e ∙ ap (slice_index t) i
part_byte x t a e (suc (suc (suc (suc (suc zero))))) lt =
    let i : a + 513 ≡ 512 * (5 / 4) + a + 5 % 4 = omega arith in
    ap (λ (l : List ℕ). slice_index l 5) e ∙ ap (slice_index t) i
part_byte x t a e (suc (suc (suc (suc (suc (suc zero)))))) lt =
    let i : a + 514 ≡ 512 * (6 / 4) + a + 6 % 4 = omega arith in
    ap (λ (l : List ℕ). slice_index l 6) e ∙ ap (slice_index t) i
part_byte x t a e (suc (suc (suc (suc (suc (suc (suc zero))))))) lt =
    let i : a + 515 ≡ 512 * (7 / 4) + a + 7 % 4 = omega arith in
    ap (λ (l : List ℕ). slice_index l 7) e ∙ ap (slice_index t) i
part_byte x t a e (suc (suc (suc (suc (suc (suc (suc (suc q)))))))) lt = absurd (omega arith)

pub word_bit : (x : ℕ) (t : List ℕ) (a : ℕ) → IsWordAt x t a → (k : ℕ) → k < 64
    → bit_at x k ≡ bit_at (slice_index t (512 * (k / 8 / 4) + a + k / 8 % 4)) (k % 8)
word_bit x t a e k lt =
    let split : k ≡ 8 * (k / 8) + k % 8 = omega arith in
    ap (bit_at x) split ∙ bit_of_byte x (8 * (k / 8)) (k % 8) (omega arith)
    ∙ ap (λ (n : ℕ). bit_at n (k % 8)) (part_byte x t a e (k / 8) (omega arith))

-- bit b of the byte in row r of column c of block j, after the words of a text have been transposed
transposed_bit : (fs : List (ℕ → ℕ)) (t : List ℕ) (c j n r b : ℕ) → fs ≡ map (word_bits t c) (range_with_len 0 32) → j < 64 → r < 4 → b < 8
    → n ≡ 8 * r + b
    → transposed fs n (j % 64) ≡ bit_at (slice_index t (16 * j + (4 * c + r))) b
transposed_bit fs t c j n r b e lt hr hb en =
    let m : ℕ = j % 64 in
    let k : ℕ = 32 * (m / 32) + n in
    let at : 512 * (k % 64 / 8 / 4) + (16 * (m % 32) + 4 * c) + k % 64 / 8 % 4 ≡ 16 * j + (4 * c + r) = omega arith in
    let low : k % 64 % 8 ≡ b = omega arith in
    (λ i. vector_at (e i) (m % 32) k)
    ∙ ap (λ (f : ℕ → ℕ). f k) (get_or-map-range_with_len (word_bits t c) 0 32 (m % 32) (m % 32) (λ k. 0) (omega arith) (omega arith))
    ∙ (λ i. bit_at (slice_index t (at i)) (low i))

-- the byte in row r of column c of block j: p0 to p7 are the planes of row r, made by a transposition of the text's words
pub transposed_byte : (fs : List (ℕ → ℕ)) (t : List ℕ) (q : Row) (c j r : ℕ) → fs ≡ map (word_bits t c) (range_with_len 0 32)
    → row_vectors q c ≡ map (λ i k. transposed fs (8 * r + i) (k % 64)) (range_with_len 0 8)
    → j < 64 → r < 4 → slice_index t (16 * j + (4 * c + r)) < 256 → byte_in q c j ≡ slice_index t (16 * j + (4 * c + r))
transposed_byte fs t q c j r e row lt hr byte =
    let same : j ≡ j % 64 = omega arith in
    let bit : (b : ℕ) → b < 8 → vector_at (row_vectors q c) b j ≡ bit_at (slice_index t (16 * j + (4 * c + r))) b =
    λ b hb.
    (λ i. vector_at (row i) b j)
    ∙ ap (λ (f : ℕ → ℕ). f j) (get_or-map-range_with_len (λ (i k : ℕ). transposed fs (8 * r + i) (k % 64)) 0 8 b b (λ k. 0) hb (omega arith))
    ∙ transposed_bit fs t c j (8 * r + b) r b e lt hr hb refl in
    let plane : (v : List ℕ) → bit_in v c j ≡ bits v c j = λ v. ap (bit_in v c) same in
    (λ i. number ((plane q.p0 ∙ bit 0 (omega arith)) i ∷ (plane q.p1 ∙ bit 1 (omega arith)) i ∷ (plane q.p2 ∙ bit 2 (omega arith)) i
    ∷ (plane q.p3 ∙ bit 3 (omega arith)) i ∷ (plane q.p4 ∙ bit 4 (omega arith)) i ∷ (plane q.p5 ∙ bit 5 (omega arith)) i
    ∷ (plane q.p6 ∙ bit 6 (omega arith)) i ∷ (plane q.p7 ∙ bit 7 (omega arith)) i ∷ []))
    ∙ again (slice_index t (16 * j + (4 * c + r))) byte

-- bit n of a half of vector j % 32, after vectors have been transposed back, is bit j of vector n
back_bit : (fs : List (ℕ → ℕ)) (v : List ℕ) (c j n k : ℕ) → bits v c ≡ (λ m. transposed fs (j % 32) (m % 64)) → j < 64 → n < 32
    → k ≡ j / 32 * 32 + n
    → bit_at (slice_index v c) k ≡ vector_at fs n j
back_bit fs v c j n k e lt hn ek =
    let e0 : k ≡ k % 64 = omega arith in
    let a : k % 64 % 32 ≡ n = omega arith in
    let b : 32 * (k % 64 / 32) + j % 32 ≡ j = omega arith in
    ap (bit_at (slice_index v c)) e0 ∙ (λ t. e t k) ∙ (λ t. vector_at fs (a t) (b t))

-- vector i of 32 that have been transposed
vector_is : (vs : List (List ℕ)) (fs : List (ℕ → ℕ)) (c i : ℕ) → length vs ≡ 32 → i < 32
    → map (λ v. bits v c) vs ≡ map (λ m k. transposed fs m (k % 64)) (range_with_len 0 32)
    → bits (slice_index_or vs i []) c ≡ (λ k. transposed fs i (k % 64))
vector_is vs fs c i len lt e =
    sym (get_or-map (λ (v : List ℕ). bits v c) vs i [] (λ k. 0) (omega arith))
    ∙ ap (λ (l : List (ℕ → ℕ)). slice_index_or l i (λ k. 0)) e
    ∙ get_or-map-range_with_len (λ (m k : ℕ). transposed fs m (k % 64)) 0 32 i i (λ k. 0) lt (omega arith)

-- byte r of the half of vector j % 32 that holds block j: its bits are those of planes 8 r to 8 r + 7
pub back_byte : (vs : List (List ℕ)) (fs : List (ℕ → ℕ)) (c j r s : ℕ) → length vs ≡ 32
    → map (λ v. bits v c) vs ≡ map (λ m k. transposed fs m (k % 64)) (range_with_len 0 32)
    → j < 64 → r < 4 → s ≡ j / 32 * 32 + 8 * r
    → slice_index (slice_index_or vs (j % 32) []) c / 2 ^ s % 256 ≡ number (map (λ b. vector_at fs (8 * r + b) j) (range_with_len 0 8))
back_byte vs fs c j r s len e lt hr es =
    let v : List ℕ = slice_index_or vs (j % 32) [] in
    let is : bits v c ≡ (λ k. transposed fs (j % 32) (k % 64)) = vector_is vs fs c (j % 32) len (omega arith) e in
    let bit : (b k : ℕ) → b < 8 → k ≡ s + b → bit_at (slice_index v c) k ≡ vector_at fs (8 * r + b) j =
    λ b k hb ek. back_bit fs v c j (8 * r + b) k is lt (omega arith) (omega arith) in
    sym (eight_bits (slice_index v c) s)
    ∙ (λ i. number (bit 0 s (omega arith) (omega arith) i ∷ bit 1 (s + 1) (omega arith) refl i ∷ bit 2 (s + 2) (omega arith) refl i
    ∷ bit 3 (s + 3) (omega arith) refl i ∷ bit 4 (s + 4) (omega arith) refl i ∷ bit 5 (s + 5) (omega arith) refl i
    ∷ bit 6 (s + 6) (omega arith) refl i ∷ bit 7 (s + 7) (omega arith) refl i ∷ []))

-- ---- two halves of a number

halves_0 : (x y : ℕ) → (x % 4294967296 + y % 4294967296 * 4294967296) % 256 ≡ x % 256
halves_0 x y = omega arith

halves_1 : (x y : ℕ) → (x % 4294967296 + y % 4294967296 * 4294967296) / 256 % 256 ≡ x / 256 % 256
halves_1 x y = omega arith

halves_2 : (x y : ℕ) → (x % 4294967296 + y % 4294967296 * 4294967296) / 65536 % 256 ≡ x / 65536 % 256
halves_2 x y = omega arith

halves_3 : (x y : ℕ) → (x % 4294967296 + y % 4294967296 * 4294967296) / 16777216 % 256 ≡ x / 16777216 % 256
halves_3 x y = omega arith

halves_4 : (x y : ℕ) → (x % 4294967296 + y % 4294967296 * 4294967296) / 4294967296 % 256 ≡ y % 256
halves_4 x y = omega arith

halves_5 : (x y : ℕ) → (x % 4294967296 + y % 4294967296 * 4294967296) / 1099511627776 % 256 ≡ y / 256 % 256
halves_5 x y = omega arith

halves_6 : (x y : ℕ) → (x % 4294967296 + y % 4294967296 * 4294967296) / 281474976710656 % 256 ≡ y / 65536 % 256
halves_6 x y = omega arith

halves_7 : (x y : ℕ) → (x % 4294967296 + y % 4294967296 * 4294967296) / 72057594037927936 % 256 ≡ y / 16777216 % 256
halves_7 x y = omega arith

shift_more : (x s k : ℕ) → x / 2 ^ s / 2 ^ k ≡ x / 2 ^ (s + k)
shift_more x s k = div-div-eq-div-mul x (2 ^ s) (2 ^ k) ∙ ap (λ (p : ℕ). x / p) (sym (pow-add 2 s k))

pub four_joined : (a b s : ℕ) → to_le_bytes w64 (a / 2 ^ s % 2 ^ 32 + b / 2 ^ s % 2 ^ 32 * 4294967296) ≡ word_bytes a s ++ word_bytes b s
four_joined a b s =
    let x : ℕ = a / 2 ^ s in
    let y : ℕ = b / 2 ^ s in
    λ i. halves_0 x y i
    ∷ (halves_1 x y ∙ ap (λ (n : ℕ). n % 256) (shift_more a s 8)) i
    ∷ (halves_2 x y ∙ ap (λ (n : ℕ). n % 256) (shift_more a s 16)) i
    ∷ (halves_3 x y ∙ ap (λ (n : ℕ). n % 256) (shift_more a s 24)) i
    ∷ halves_4 x y i
    ∷ (halves_5 x y ∙ ap (λ (n : ℕ). n % 256) (shift_more b s 8)) i
    ∷ (halves_6 x y ∙ ap (λ (n : ℕ). n % 256) (shift_more b s 16)) i
    ∷ (halves_7 x y ∙ ap (λ (n : ℕ). n % 256) (shift_more b s 24)) i ∷ []

-- ---- a block of a text

-- entry k of block j
entry_of_block : (text : List ℕ) (j k : ℕ) → k < 16 → slice_index (block_at text j) k ≡ slice_index text (16 * j + k)
entry_of_block text j k lt = get_or-take 16 (drop (16 * j) text) k 0 lt ∙ get_or-drop (16 * j) text k 0

-- a block is its sixteen entries
pub block_entries : (text : List ℕ) (j : ℕ) → 16 * j + 16 ≤ length text
    → block_at text j ≡ map (λ k. slice_index text (16 * j + k)) (range_with_len 0 16)
block_entries text j le =
    let size : length (block_at text j) ≡ 16 = length-take-le 16 (drop (16 * j) text) (omega (arith, length-drop (16 * j) text)) in
    fill_by_all (λ k. slice_index text (16 * j + k)) (block_at text j) 16 0 size (λ k lt. entry_of_block text j k lt)
