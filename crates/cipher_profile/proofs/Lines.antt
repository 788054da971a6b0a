-- What the bytes that are left say of their first line.
use Rattle.std.proofs.Common.{◌≡◌, ◌≤◌, ◌<◌, ℕ, ◌+◌, List, [], ◌∷◌, ◌++◌, length, take, drop, Ok, Err, refl, sym, ◌∙◌, ap, arith, get_or}
use Rattle.std.specs.Prelude.{min}
use Rattle.std.proofs.lemmas.Bool.Decides.{nat_tests}
use Rattle.std.proofs.lemmas.List.{append-nil, drop-drop, length-take}
use Rattle.cipher_profile.specs.declared.key_line.KeyError.TheVariants.{KeyTooLong}
use Rattle.cipher_profile.specs.KeyLine.{after_line, first_line, key_line_of}

-- a line that is short enough is given
line_of_short : (left line : List ℕ) → 1 ≤ length left → length line ≤ 1024 → first_line left ≡ line
    → Ok line ≡ key_line_of left
line_of_short [] line some short is = absurd (omega arith)
line_of_short (byte ∷ rest) line some short is =
    let within : length (first_line (byte ∷ rest)) ≤ 1024 = omega (arith, ap length is) in
    grind (arith, nat_tests)

-- a line that is too long is refused
pub line_of_long : (left : List ℕ) → 1024 < length (first_line left) → Err KeyTooLong ≡ key_line_of left
line_of_long [] long = absurd (omega arith)
line_of_long (byte ∷ rest) long = grind (arith, nat_tests)

-- and 1,025 bytes of it are taken
pub after_line_long : (old left : List ℕ) → 1024 < length (first_line old) → left ≡ drop 1025 old
    → left ≡ after_line old
after_line_long old left long is =
    let taken : min 1025 (length (first_line old) + 1) ≡ 1025 = omega arith in
    is ∙ ap (λ (n : ℕ). drop n old) (sym taken)

-- a line is no longer than what it is the first of
first_line_within : (left : List ℕ) → length (first_line left) ≤ length left
first_line_within [] = omega arith
first_line_within (byte ∷ rest) = let within = first_line_within rest in grind (arith, nat_tests)

-- the line that ends here is what stands in the buffer
line_ended : (old left buffer : List ℕ) (at : ℕ)
    → first_line old ≡ take at buffer ++ first_line left → first_line left ≡ [] → first_line old ≡ take at buffer
line_ended old left buffer at line ends =
    line ∙ ap (λ (end : List ℕ). take at buffer ++ end) ends ∙ append-nil (take at buffer)

-- so it is given, unless it is empty
pub line_of_ended : (old left buffer : List ℕ) (at : ℕ) → 1 ≤ at → at ≤ 1024 → at ≤ length buffer
    → first_line old ≡ take at buffer ++ first_line left → first_line left ≡ [] → Ok (take at buffer) ≡ key_line_of old
line_of_ended old left buffer at some short within line ends =
    let is = line_ended old left buffer at line ends in
    let long = length-take at buffer in
    line_of_short old (take at buffer) (omega (arith, ap length is, first_line_within old)) (omega arith) is

-- and the line feed is taken with it, if there is one
pub after_line_ended : (old left buffer : List ℕ) (at : ℕ) → at ≤ 1024 → at ≤ length buffer
    → first_line old ≡ take at buffer ++ first_line left → first_line left ≡ []
    → left ≡ drop at old → drop 1 left ≡ after_line old
after_line_ended old left buffer at short within line ends rest =
    let is = line_ended old left buffer at line ends in
    let taken : at + 1 ≡ min 1025 (length (first_line old) + 1) = omega (arith, ap length is, length-take at buffer) in
    ap (drop 1) rest ∙ drop-drop 1 at old ∙ ap (λ (n : ℕ). drop n old) taken

-- a line feed ends the line, and one byte is what is taken for it
pub first_line_fed : (left later buffer : List ℕ) → length buffer ≡ 1 → get_or buffer 0 0 ≡ 10
    → left ≡ take 1 buffer ++ later → (first_line left ≡ []) × (drop 1 left ≡ later)
first_line_fed left later [] one feed told = absurd (omega arith)
first_line_fed left later (byte ∷ rest) one feed told = rw told (rw feed (refl, refl))
