-- Pages that stand one after another.
use Rattle.std.specs.Prelude.{◌≡◌, ℕ, ◌+◌, ◌*◌, ◌<◌, ◌≤◌, Bool, true, false, List, length, slice_index, slice_index_or, take, drop, IsTrue}
use Rattle.std.specs.Int.{w32, to_le_bytes}
use Rattle.hash_lanes.specs.Messages.{piece}
use Rattle.cipher_profile.specs.Profile.{usable}
use Rattle.page_codec.specs.Page.{FileKeys, accepts, deciphered, opened, sealed, tag, with_tag}

-- page i of them, from 0
abbrev pub nth_page : ℕ → List ℕ → ℕ → List ℕ
nth_page size pages i = take size (drop (size * i) pages)

-- a plain page, with its drawn bytes behind it, sealed as page n
abbrev pub sealed_page : FileKeys → ℕ → List ℕ → List ℕ
sealed_page file n page = sealed file n (take (usable file.profile) page) (drop (usable file.profile) page)

-- page n of an encrypted file has its tag now: it is accepted, and is decrypted as before
pub record IsTagged (file : FileKeys) (n : ℕ) (old new : List ℕ) : Type 0 where
  pub is : new ≡ with_tag file.profile (tag file n old) old
  pub accepted : IsTrue (accepts file n new)
  pub opens_as_before : deciphered file n new ≡ deciphered file n old

-- pages `from` to `to - 1`, counted from 0, have their tags now, and the others are as they were
pub record AreTagged (file : FileKeys) (numbers : List ℕ) (from to : ℕ) (old new : List ℕ) : Type 0 where
  pub length_kept : length new ≡ length old
  pub done : (i : ℕ) → from ≤ i → i < to
      → IsTagged file (slice_index numbers i) (nth_page file.profile.page_size old i) (nth_page file.profile.page_size new i)
  pub before : (i : ℕ) → i < from → nth_page file.profile.page_size new i ≡ nth_page file.profile.page_size old i
  pub left : (i : ℕ) → to ≤ i → nth_page file.profile.page_size new i ≡ nth_page file.profile.page_size old i

-- the numbers of pages that follow one another in the file, of which this is the first; those of a list
abbrev pub run_from : ℕ → ℕ → ℕ
run_from first i = first + i

abbrev pub listed : List ℕ → ℕ → ℕ
listed numbers i = slice_index numbers i

-- each of so many pages from page `at` on has a number other than 1, and these are the numbers' bytes, the lowest first
abbrev pub AreEnds : (ℕ → ℕ) → ℕ → ℕ → List ℕ → Type 0
AreEnds number at count ends = (j : ℕ) → j < count → (2 ≤ number (at + j)) × (piece ends 4 4 j ≡ to_le_bytes w32 (number (at + j)))

-- answers `from` to `to - 1`, counted from 0, say now whether those pages are accepted, by the number of each, and the answers before
-- them are as they were
pub record AreAnswered (file : FileKeys) (number : ℕ → ℕ) (pages : List ℕ) (from to : ℕ) (old new : List Bool) : Type 0 where
  pub length_kept : length new ≡ length old
  pub done : (i : ℕ) → from ≤ i → i < to
      → slice_index_or new i false ≡ accepts file (number i) (nth_page file.profile.page_size pages i)
  pub before : (i : ℕ) → i < from → slice_index_or new i false ≡ slice_index_or old i false

-- stored page n was opened where it stands, before its reserve, where it is held as accepted, and else stays as it was
pub record IsOpenedIf (file : FileKeys) (n : ℕ) (held : Bool) (old new : List ℕ) : Type 0 where
  pub opened : held ≡ true → take (usable file.profile) new ≡ opened file n old
  pub reserve : drop (usable file.profile) new ≡ drop (usable file.profile) old
  pub kept : held ≡ false → new ≡ old
