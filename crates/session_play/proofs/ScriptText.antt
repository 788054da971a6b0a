-- What the bytes that are left say of their first line.
use Rattle.std.proofs.Common.{◌≡◌, ◌≢◌, ◌==◌, ◌≤◌, ℕ, suc, ◌+◌, Bool, true, false, List, [], ◌∷◌, ◌++◌, length, take, drop, refl, sym, ◌∙◌, ap, arith}
use Rattle.std.specs.Prelude.{if◌then◌else◌}
use Rattle.std.specs.List.{onto_first}
use Rattle.std.proofs.lemmas.List.{append-nil, drop-drop, length-take}
use Rattle.cipher_profile.specs.KeyLine.{first_line}
use Rattle.session_play.specs.Script.{script_lines}

-- one byte more before the first line
split_more : (feed : Bool) (byte : ℕ) (rest : List ℕ)
    → (1 ≤ length rest → script_lines rest ≡ first_line rest ∷ script_lines (drop (length (first_line rest) + 1) rest))
    → (if feed then [] ∷ script_lines rest else onto_first byte (script_lines rest))
    ≡ (if feed then [] else byte ∷ first_line rest) ∷ script_lines (drop (length (if feed then [] else byte ∷ first_line rest) + 1) (byte ∷ rest))
split_more true byte rest more = refl
split_more false byte [] more = refl
split_more false byte (next ∷ rest) more =
    let line : List ℕ = first_line (next ∷ rest) in
    let again = more (omega arith) in
    let at : suc (length line + 1) ≡ length (byte ∷ line) + 1 = omega arith in
    ap (onto_first byte) again ∙ ap (λ (n : ℕ). (byte ∷ line) ∷ script_lines (drop n (byte ∷ next ∷ rest))) at

-- where a byte is left, there is a first line, and the other lines begin behind its line feed
pub lines_split : (left : List ℕ) → 1 ≤ length left → script_lines left ≡ first_line left ∷ script_lines (drop (length (first_line left) + 1) left)
lines_split [] some = absurd (omega arith)
lines_split (byte ∷ rest) some = split_more (byte == 10) byte rest (lines_split rest)

-- the first line has no byte where none is left
pub first_within : (left : List ℕ) → 1 ≤ length (first_line left) → 1 ≤ length left
first_within [] some = some
first_within (byte ∷ rest) some = omega arith

-- a line that ends here, whose first bytes were taken, is the first
pub line_ended : (old left later line : List ℕ) (at : ℕ) → 1 ≤ length old → at ≤ length line → first_line old ≡ take at line ++ first_line left → first_line left ≡ []
    → left ≡ drop at old → drop 1 left ≡ later → script_lines old ≡ take at line ∷ script_lines later
line_ended old left later line at some within first none rest next =
    let is : first_line old ≡ take at line = first ∙ (ap (λ (end : List ℕ). take at line ++ end) none ∙ append-nil (take at line)) in
    let long : length (first_line old) ≡ at = omega (arith, ap length is, length-take at line) in
    let behind : drop (length (first_line old) + 1) old ≡ later =
    ap (λ (n : ℕ). drop (n + 1) old) long ∙ (sym (drop-drop 1 at old) ∙ (ap (drop 1) (sym rest) ∙ next)) in
    lines_split old some
    ∙ (ap (λ (l : List ℕ). l ∷ script_lines (drop (length (first_line old) + 1) old)) is
    ∙ ap (λ (b : List ℕ). take at line ∷ script_lines b) behind)

-- where a byte is left, there is a line
pub some_lines : (left : List ℕ) → left ≢ [] → script_lines left ≢ []
some_lines [] some = absurd (some refl)
some_lines (byte ∷ rest) some = λ none. split_differs (first_line (byte ∷ rest)) (script_lines (drop (length (first_line (byte ∷ rest)) + 1) (byte ∷ rest)))
    (sym (lines_split (byte ∷ rest) (omega arith)) ∙ none)
  where
    split_differs : (line : List ℕ) (lines : List (List ℕ)) → line ∷ lines ≡ [] → ⊥
    split_differs line lines is = cc
