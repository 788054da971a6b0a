-- The parts of a word, which stand between colons. Bytes are those of ASCII: 58 is a colon.
use Rattle.std.specs.Prelude.{ℕ, ◌==◌, nat_le, List, [], ◌∷◌, length, take, drop, Option, Some, None, if◌then◌else◌}
use Rattle.std.specs.Str.{bytes_eq}

-- the bytes before the first colon, or all where there is none
unfoldable pub first_part : List ℕ → List ℕ
first_part [] = []
first_part (byte ∷ rest) = if byte == 58 then [] else byte ∷ first_part rest

-- a byte at the front of the first part
abbrev pub in_front : ℕ → List (List ℕ) → List (List ℕ)
in_front byte [] = (byte ∷ []) ∷ []
in_front byte (first ∷ later) = (byte ∷ first) ∷ later

-- the parts between the colons: one more than there are colons
unfoldable pub parts : List ℕ → List (List ℕ)
parts [] = [] ∷ []
parts (byte ∷ rest) = if byte == 58 then [] ∷ parts rest else in_front byte (parts rest)

-- the parts from this place on, where the word has one
abbrev pub parts_from : List ℕ → ℕ → List (List ℕ)
parts_from word at = if nat_le at (length word) then parts (drop at word) else []

-- what stands behind these bytes in a part that begins with them
abbrev pub value_behind : List ℕ → List ℕ → Option (List ℕ)
value_behind name part = if bytes_eq (take (length name) part) name then Some (drop (length name) part) else None
