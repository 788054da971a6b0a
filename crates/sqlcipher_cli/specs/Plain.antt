-- What words say of plain files. They are those behind FILE.
use Rattle.std.specs.Prelude.{ℕ, ◌&&◌, not, Bool, false, List, [], ◌∷◌, Option, Some, None, codes}
use Rattle.std.specs.Str.{bytes_eq}
use Rattle.cipher_profile.specs.Profile.{is_plain}
use Rattle.profile_word.specs.Word.{profile_named}
use Rattle.cipher_profile.specs.declared.profile.Profile.{Profile}

-- this is a profile of plain files
abbrev pub is_plain_of : Option Profile → Bool
is_plain_of None = false
is_plain_of (Some profile) = is_plain profile

-- the word names plain files
abbrev pub names_plain : List ℕ → Bool
names_plain word = is_plain_of (profile_named word)

-- `migrate` from an encrypted file to a plain one
abbrev pub decrypts : List (List ℕ) → Bool
decrypts [] = false
decrypts (name ∷ []) = false
decrypts (name ∷ old ∷ []) = false
decrypts (name ∷ old ∷ new ∷ []) = bytes_eq name (codes "migrate") && not (names_plain old) && names_plain new
decrypts (name ∷ old ∷ new ∷ next ∷ rest) = false

-- and the other way
abbrev pub encrypts : List (List ℕ) → Bool
encrypts [] = false
encrypts (name ∷ []) = false
encrypts (name ∷ old ∷ []) = false
encrypts (name ∷ old ∷ new ∷ []) = bytes_eq name (codes "migrate") && names_plain old && not (names_plain new)
encrypts (name ∷ old ∷ new ∷ next ∷ rest) = false
