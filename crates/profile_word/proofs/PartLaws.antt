-- The parts of a word, from a place on.
use Rattle.std.proofs.Common.{◌≡◌, ◌∙◌, ◌+◌, ◌-◌, ◌≤◌, ◌<◌, ℕ, zero, suc, Bool, true, false, List, [], ◌∷◌, length, take, drop, ap, refl, sym, arith, rules, get_or}
use Rattle.std.specs.Prelude.{◌==◌, nat_le, nat_lt, if◌then◌else◌}
use Rattle.std.proofs.lemmas.Bool.Decides.{nat_tests}
use Rattle.std.proofs.lemmas.List.{drop-drop, length-drop}
use Rattle.profile_word.specs.Parts.{first_part, in_front, parts, parts_from}

-- the parts behind the first
abbrev behind : List ℕ → List (List ℕ)
behind word = if nat_lt (length (first_part word)) (length word) then parts (drop (length (first_part word) + 1) word) else []

pub first_within : (word : List ℕ) → length (first_part word) ≤ length word
unfolding first_part
first_within [] = omega arith
first_within (byte ∷ rest) = let within = first_within rest in grind (arith, nat_tests)

pub first_taken : (word : List ℕ) → take (length (first_part word)) word ≡ first_part word
unfolding first_part
first_taken [] = refl
first_taken (byte ∷ rest) = by_byte (byte == 58) (first_taken rest)
  where
    by_byte : (is : Bool) → take (length (first_part rest)) rest ≡ first_part rest
        → take (length (if is then [] else byte ∷ first_part rest)) (byte ∷ rest) ≡ (if is then [] else byte ∷ first_part rest)
    by_byte true later = refl
    by_byte false later = ap (λ (l : List ℕ). byte ∷ l) later

some_left : (n : ℕ) → nat_lt 0 (suc n) ≡ true
some_left n = search rules

-- what stands behind a part, one byte later
shift : (byte : ℕ) (rest : List ℕ) (k : ℕ)
    → (if nat_lt k (length rest) then parts (drop (k + 1) rest) else [])
    ≡ (if nat_lt (suc k) (suc (length rest)) then parts (drop (suc k + 1) (byte ∷ rest)) else [])
shift byte rest k =
    let same : nat_lt k (length rest) ≡ nat_lt (suc k) (suc (length rest)) = grind (arith, nat_tests) in
    let next : suc (k + 1) ≡ suc k + 1 = omega arith in
    (λ t. if same t then parts (drop (next t) (byte ∷ rest)) else [])

pub parts_apart : (word : List ℕ) → parts word ≡ first_part word ∷ behind word
unfolding first_part parts
parts_apart [] = refl
parts_apart (byte ∷ rest) = by_byte (byte == 58) (parts_apart rest)
  where
    by_byte : (is : Bool) → parts rest ≡ first_part rest ∷ behind rest → (if is then [] ∷ parts rest else in_front byte (parts rest))
        ≡ (if is then [] else byte ∷ first_part rest)
        ∷ (if nat_lt (length (if is then [] else byte ∷ first_part rest)) (length (byte ∷ rest))
        then parts (drop (length (if is then [] else byte ∷ first_part rest) + 1) (byte ∷ rest)) else [])
    by_byte true later = ap (λ (b : Bool). [] ∷ (if b then parts rest else [])) (sym (some_left (length rest)))
    by_byte false later = ap (in_front byte) later ∙ ap (λ (l : List (List ℕ)). (byte ∷ first_part rest) ∷ l) (shift byte rest (length (first_part rest)))

-- the bytes from a place on
drop_next : (word : List ℕ) (i : ℕ) → i < length word → drop i word ≡ get_or word i 0 ∷ drop (suc i) word
drop_next [] i less = absurd (omega (arith, less))
drop_next (x ∷ xs) zero less = refl
drop_next (x ∷ xs) (suc i) less = drop_next xs i (omega (arith, less))

one_more : (byte : ℕ) (rest : List ℕ) → (byte ≡ 58 → ⊥) → length (first_part (byte ∷ rest)) ≡ length (first_part rest) + 1
unfolding first_part
one_more byte rest differs = grind (arith, nat_tests, differs)

none_more : (byte : ℕ) (rest : List ℕ) → byte ≡ 58 → length (first_part (byte ∷ rest)) ≡ 0
unfolding first_part
none_more byte rest is = grind (arith, nat_tests, is)

pub part_goes_on : (word : List ℕ) (i : ℕ) → i < length word → (get_or word i 0 ≡ 58 → ⊥)
    → length (first_part (drop i word)) ≡ length (first_part (drop (i + 1) word)) + 1
part_goes_on word i less differs =
    let next : suc i ≡ i + 1 = omega arith in
    ap (λ (l : List ℕ). length (first_part l)) (drop_next word i less) ∙ one_more (get_or word i 0) (drop (suc i) word) differs
    ∙ ap (λ (k : ℕ). length (first_part (drop k word)) + 1) next

pub part_stops : (word : List ℕ) (i : ℕ) → i < length word → get_or word i 0 ≡ 58 → length (first_part (drop i word)) ≡ 0
part_stops word i less is = ap (λ (l : List ℕ). length (first_part l)) (drop_next word i less) ∙ none_more (get_or word i 0) (drop (suc i) word) is

pub part_ends : (word : List ℕ) (i : ℕ) → length word ≤ i → length (first_part (drop i word)) ≡ 0
unfolding first_part
part_ends word i end = ap (λ (l : List ℕ). length (first_part l)) (drop_all word i end)
  where
    length-nil : (xs : List ℕ) → length xs ≡ 0 → xs ≡ []
    length-nil [] none = refl
    length-nil (x ∷ xs) none = absurd (omega (arith, none))

    drop_all : (xs : List ℕ) (k : ℕ) → length xs ≤ k → drop k xs ≡ []
    drop_all xs k end = length-nil (drop k xs) (omega (arith, length-drop k xs, end))

-- the parts from a place on are the first of them and those behind it
pub parts_step : (word : List ℕ) (at : ℕ) → at ≤ length word
    → parts_from word at ≡ first_part (drop at word) ∷ parts_from word (at + length (first_part (drop at word)) + 1)
parts_step word at within =
    let k : ℕ = length (first_part (drop at word)) in
    let here : nat_le at (length word) ≡ true = search (rules, within) in
    let long : length (drop at word) ≡ length word - at = length-drop at word in
    let same : nat_lt k (length (drop at word)) ≡ nat_le (at + k + 1) (length word) = grind (arith, nat_tests, long, within) in
    let order : k + 1 + at ≡ at + k + 1 = omega arith in
    let rest : drop (k + 1) (drop at word) ≡ drop (at + k + 1) word = drop-drop (k + 1) at word ∙ ap (λ (n : ℕ). drop n word) (omega arith) in
    ap (λ (b : Bool). if b then parts (drop at word) else []) here
    ∙ parts_apart (drop at word)
    ∙ (λ t. first_part (drop at word) ∷ (if same t then parts (rest t) else []))

-- and past the end there are none
pub parts_over : (word : List ℕ) (at : ℕ) → length word < at → parts_from word at ≡ []
parts_over word at over =
    let past : nat_le at (length word) ≡ false = search (rules, over) in
    ap (λ (b : Bool). if b then parts (drop at word) else []) past

-- what a word names, by its first part and the others
pub named_by : (word : List ℕ) → parts word ≡ first_part word ∷ parts_from word (length (first_part word) + 1)
named_by word =
    let here : nat_le 0 (length word) ≡ true = search rules in
    let next : 0 + length (first_part word) + 1 ≡ length (first_part word) + 1 = omega arith in
    ap (λ (b : Bool). if b then parts word else []) (sym here)
    ∙ parts_step word 0 (omega arith)
    ∙ ap (λ (k : ℕ). first_part word ∷ parts_from word k) next

-- the parts from a place on, where the first of them ends here
pub parts_here : (word : List ℕ) (at end : ℕ) → at ≤ length word → end ≡ at + length (first_part (drop at word))
    → parts_from word at ≡ take (end - at) (drop at word) ∷ parts_from word (end + 1)
parts_here word at end within ends =
    let part : List ℕ = first_part (drop at word) in
    let long : length part ≡ end - at = omega (arith, ends) in
    let next : at + length part + 1 ≡ end + 1 = omega (arith, ends) in
    let slice : part ≡ take (end - at) (drop at word) = sym (first_taken (drop at word)) ∙ ap (λ (k : ℕ). take k (drop at word)) long in
    parts_step word at within ∙ (λ t. slice t ∷ parts_from word (next t))
