-- Bytes behind others, and in the place of others.
use Rattle.std.proofs.Common.{◌≡◌, ◌≤◌, ℕ, ◌+◌, ◌-◌, ◌*◌, List, [], ◌∷◌, ◌++◌, length, take, drop, replicate, refl, ap, sym, ◌∙◌, arith, length-append, length-drop}
use Rattle.std.specs.Prelude.{slice_index}
use Rattle.std.proofs.lemmas.List.{append_assoc, append-nil, drop-drop, get_or-append-add, length-replicate, length-take-le, replicate-append-replicate, take-append-drop}
use Rattle.std.proofs.Math.Seq.{drop-append_seam, drop-append-add}
use Rattle.db_format.specs.Bytes.{u16_at, u32_at}
use Rattle.page_build.specs.Draft.{laid}
use Rattle.page_build.specs.Written.{joined_cells, four_bytes, offsets, padded, two_bytes}

abbrev pub zeros_of : ℕ → List ℕ
zeros_of n = replicate n 0

pub take_front : (xs ys : List ℕ) → take (length xs) (xs ++ ys) ≡ xs
take_front [] ys = refl
take_front (x ∷ xs) ys = ap (λ l. x ∷ l) (take_front xs ys)

pub zeros-append : (a b : ℕ) → zeros_of (a + b) ≡ zeros_of a ++ zeros_of b
zeros-append a b = sym (replicate-append-replicate a b 0)

-- bytes in the place of as many others
pub laid_mid : (before mid behind piece : List ℕ) (at : ℕ) → at ≡ length before → length mid ≡ length piece
    → laid at piece (before ++ (mid ++ behind)) ≡ before ++ (piece ++ behind)
laid_mid before mid behind piece at is same =
    let front : take at (before ++ (mid ++ behind)) ≡ before =
    ap (λ n. take n (before ++ (mid ++ behind))) is ∙ take_front before (mid ++ behind) in
    let rest : drop (at + length piece) (before ++ (mid ++ behind)) ≡ behind =
    ap (λ n. drop (n + length piece) (before ++ (mid ++ behind))) is ∙ drop-append-add before (mid ++ behind) (length piece)
    ∙ ap (λ n. drop n (mid ++ behind)) (sym same) ∙ drop-append_seam mid behind
    in
    ap (λ l. l ++ (piece ++ drop (at + length piece) (before ++ (mid ++ behind)))) front ∙ ap (λ l. before ++ (piece ++ l)) rest

pub index_after : (pre xs : List ℕ) (i : ℕ) → slice_index (pre ++ xs) (length pre + i) ≡ slice_index xs i
index_after pre xs i = get_or-append-add pre xs i 0

-- the two bytes after others
pub u16_after : (pre xs : List ℕ) (at i : ℕ) → at ≡ length pre + i → u16_at (pre ++ xs) at ≡ u16_at xs i
u16_after pre xs at i is =
    let second : at + 1 ≡ length pre + (i + 1) = omega arith in
    rw (is) (ap (λ a. a * 256 + slice_index (pre ++ xs) (length pre + i + 1)) (index_after pre xs i)
    ∙ ap (λ k. slice_index xs i * 256 + slice_index (pre ++ xs) k) (sym again ∙ second)
    ∙ ap (λ a. slice_index xs i * 256 + a) (index_after pre xs (i + 1)))
  where
    again : at + 1 ≡ length pre + i + 1
    again = omega arith

pub two_back : (n : ℕ) (rest : List ℕ) → u16_at (two_bytes n ++ rest) 0 ≡ n
two_back n rest = omega arith

pub four_back : (n : ℕ) (rest : List ℕ) → u32_at (four_bytes n ++ rest) 0 ≡ n
four_back n rest = omega arith

pub u32_after : (pre xs : List ℕ) (at i : ℕ) → at ≡ length pre + i → u32_at (pre ++ xs) at ≡ u32_at xs i
u32_after pre xs at i is =
    ap (λ a. a * 65536 + u16_at (pre ++ xs) (at + 2)) (u16_after pre xs at i is)
    ∙ ap (λ a. u16_at xs i * 65536 + a) (u16_after pre xs (at + 2) (i + 2) (omega arith))

-- one cell more: below the others, its offset behind theirs
pub content-more : (cells : List (List ℕ)) (cell : List ℕ) → joined_cells (cells ++ cell ∷ []) ≡ cell ++ joined_cells cells
content-more [] cell = sym (append-nil cell)
content-more (c ∷ cells) cell = ap (λ l. l ++ c) (content-more cells cell) ∙ append_assoc cell (joined_cells cells) c

pub length-content-more : (cells : List (List ℕ)) (cell : List ℕ)
    → length (joined_cells (cells ++ cell ∷ [])) ≡ length cell + length (joined_cells cells)
length-content-more cells cell = ap length (content-more cells cell) ∙ length-append cell (joined_cells cells)

pub offsets-more : (end : ℕ) (cells : List (List ℕ)) (cell : List ℕ)
    → offsets end (cells ++ cell ∷ []) ≡ offsets end cells ++ two_bytes (end - length (joined_cells cells) - length cell)
offsets-more end [] cell = ap (λ n. two_bytes (n - length cell) ++ []) same
  where
    same : end ≡ end - 0
    same = omega arith
offsets-more end (c ∷ cells) cell =
    ap (λ l. two_bytes (end - length c) ++ l)
    (offsets-more (end - length c) cells cell ∙ ap (λ n. offsets (end - length c) cells ++ two_bytes (n - length cell)) less)
  where
    less : end - length c - length (joined_cells cells) ≡ end - length (joined_cells cells ++ c)
    less = let both : length (joined_cells cells ++ c) ≡ length (joined_cells cells) + length c = length-append (joined_cells cells) c in omega arith

pub length-offsets : (end : ℕ) (cells : List (List ℕ)) → length (offsets end cells) ≡ 2 * length cells
length-offsets end [] = refl
length-offsets end (c ∷ cells) =
    let rest : length (offsets (end - length c) cells) ≡ 2 * length cells = length-offsets (end - length c) cells in omega arith

pub length-padded : (cell : List ℕ) → length (padded cell) ≡ length cell + (4 - length cell)
length-padded cell =
    length-append cell (replicate (4 - length cell) 0) ∙ ap (λ n. length cell + n) (length-replicate (4 - length cell) 0)

-- one piece behind another, over bytes that are there
pub laid_twice : (at : ℕ) (one two page : List ℕ) → at + length one + length two ≤ length page
    → laid (at + length one) two (laid at one page) ≡ laid at (one ++ two) page
laid_twice at one two page fits =
    let rest : List ℕ = drop (at + length one) page in
    let long : length rest ≡ length page - (at + length one) = length-drop (at + length one) page in
    let place : length (take at page ++ one) ≡ at + length one =
    length-append (take at page) one ∙ ap (λ n. n + length one) (length-take-le at page (omega arith)) in
    let split : laid at one page ≡ (take at page ++ one) ++ (take (length two) rest ++ drop (length two) rest) =
    ap (λ l. take at page ++ (one ++ l)) (sym (take-append-drop (length two) rest)) ∙ sym (append_assoc (take at page) one (take (length two) rest ++ drop (length two) rest))
    in
    let behind : drop (length two) rest ≡ drop (at + length (one ++ two)) page =
    drop-drop (length two) (at + length one) page ∙ ap (λ n. drop n page) (sum_is (length (one ++ two)) (length-append one two)) in
    ap (laid (at + length one) two) split
    ∙ laid_mid (take at page ++ one) (take (length two) rest) (drop (length two) rest) two (at + length one) (sym place)
    (length-take-le (length two) rest (omega arith))
    ∙ append_assoc (take at page) one (two ++ drop (length two) rest) ∙ ap (λ l. take at page ++ l) (sym (append_assoc one two (drop (length two) rest)))
    ∙ ap (λ l. take at page ++ ((one ++ two) ++ l)) behind
  where
    sum_is : (both : ℕ) → both ≡ length one + length two → at + length one + length two ≡ at + both
    sum_is both h = omega arith
