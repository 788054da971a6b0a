-- Pages that are held back: a list of their numbers, and a room in which they stand one after another, each with the bytes that were
-- drawn for it behind its content.
use Rattle.std.specs.Prelude.{IsTrue, ◌≡◌, ℕ, zero, suc, ◌-◌, ◌*◌, ◌<◌, ◌≤◌, ◌==◌, Bool, true, false, List, length, take, drop, slice_index, Option, Some, if◌then◌else◌}
use Rattle.std.specs.Option.{option_map}
use Rattle.cipher_profile.specs.Profile.{usable}
use Rattle.edge_model.specs.Files.{written}
use Rattle.db_format.specs.Pages.{Test}
use Rattle.fresh_disk.specs.Torn.{MayTear}
use Rattle.page_codec.specs.Page.{FileKeys, sealed}
use Rattle.page_codec.specs.Pages.{nth_page, sealed_page}
use Rattle.fresh_file.specs.Fresh.{IsWell}
use Rattle.fresh_file.specs.Sealed.{IsSealing}

-- ---- a list of numbers, and what belongs to each

-- one of the first so many is this number
abbrev pub is_among : List ℕ → ℕ → Test
is_among numbers zero n = false
is_among numbers (suc k) n = if slice_index numbers k == n then true else is_among numbers k n

-- what belongs to the last of the first so many that is this number, or else these bytes
abbrev pub held_or : List ℕ → (ℕ → List ℕ) → ℕ → ℕ → List ℕ → List ℕ
held_or numbers page zero n other = other
held_or numbers page (suc k) n other = if slice_index numbers k == n then page k else held_or numbers page k n other

-- the file once the first so many were written, one after another, each to the place of its number
abbrev pub with_pages : ℕ → List ℕ → (ℕ → List ℕ) → ℕ → Option (List ℕ) → Option (List ℕ)
with_pages size numbers page zero fresh = fresh
with_pages size numbers page (suc k) fresh =
    option_map (written ((slice_index numbers k - 1) * size) (page k)) (with_pages size numbers page k fresh)

-- some of them were written, and the write of the next was done in part
pub record IsCutShort (size : ℕ) (numbers : List ℕ) (page : ℕ → List ℕ) (count : ℕ) (old new : Option (List ℕ)) : Type 0 where
  pub at : ℕ
  pub within : at < count
  pub torn : MayTear ((slice_index numbers at - 1) * size) size (with_pages size numbers page at old) new

-- ---- held pages

-- the content of the held page at this place
abbrev pub plain_at : FileKeys → List ℕ → ℕ → List ℕ
plain_at keys room k = take (usable keys.profile) (nth_page keys.profile.page_size room k)

-- the bytes that were drawn for it
abbrev pub draw_at : FileKeys → List ℕ → ℕ → List ℕ
draw_at keys room k = drop (usable keys.profile) (nth_page keys.profile.page_size room k)

-- it, sealed
abbrev pub sealed_at : FileKeys → List ℕ → List ℕ → ℕ → List ℕ
sealed_at keys numbers room k = sealed keys (slice_index numbers k) (plain_at keys room k) (draw_at keys room k)

-- the file once the held pages stand in it
abbrev pub settled : FileKeys → List ℕ → List ℕ → ℕ → Option (List ℕ) → Option (List ℕ)
settled keys numbers room held fresh = with_pages keys.profile.page_size numbers (sealed_at keys numbers room) held fresh

-- each of them is sealed to a page that is accepted and opens to it
abbrev pub AreSealing : FileKeys → List ℕ → List ℕ → ℕ → Type 0
AreSealing keys numbers room held = (k : ℕ) → k < held → IsSealing keys (slice_index numbers k) (plain_at keys room k) (draw_at keys room k)

-- these bytes are the plain page with its draw behind it, sealed as page n
pub record IsSealedAs (keys : FileKeys) (n : ℕ) (page stored : List ℕ) : Type 0 where
  pub is : stored ≡ sealed_page keys n page
  pub sealing : IsSealing keys n (take (usable keys.profile) page) (drop (usable keys.profile) page)

-- The bytes are told. A page that was put and is not held is whole in the file, and once the held pages stand there, all that were put do.
pub record IsWellOnce (keys : FileKeys) (numbers room : List ℕ) (held : ℕ) (put : Test) (count start : ℕ) (tells draws_tell : Bool) (fresh : Option (List ℕ)) (drawn : List ℕ) : Type 0 where
  pub told : IsTrue tells
  pub file : List ℕ
  pub is : fresh ≡ Some file
  pub whole : (n : ℕ) → put n ≡ true → is_among numbers held n ≡ false → (1 ≤ n) × (n * keys.profile.page_size ≤ length file)
  pub well : AreSealing keys numbers room held → IsWell keys put count start tells draws_tell (settled keys numbers room held fresh) drawn
