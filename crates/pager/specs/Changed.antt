-- The pages that a transaction changed, and what its pages are.
use Rattle.std.specs.Prelude.{ℕ, ◌≡◌, ◌≢◌, ◌≤◌, ◌<◌, ◌+◌, ◌*◌, ◌==◌, ◌&&◌, Bool, true, false, List, [], ◌∷◌, ◌++◌, length, take, drop, slice_index, IsTrue, if◌then◌else◌}
use Rattle.std.specs.Bool.{beq}
use Rattle.std.specs.List.{AllByRecursion}
use Rattle.cipher_profile.specs.Profile.{usable}
use Rattle.page_codec.specs.Page.{FileKeys, accepts, magic, opened, sealed}
use Rattle.page_codec.specs.Pages.{nth_page}
use Rattle.page_cache.specs.Pages.{Page, is_held}
use Rattle.pager.specs.Held.{bytes_of_page}

-- The changed pages: their numbers, in the order of their first change, and the frames that hold them. There is room for so many
-- frames of so many bytes, and the file has so many pages.
pub record Changed : Type 0 where
  pub numbers : List ℕ
  pub held : List Page
  pub frames : ℕ
  pub usable : ℕ
  pub pages : ℕ

-- none yet
abbrev pub unchanged : ℕ → ℕ → ℕ → Changed
unchanged frames usable pages = record { numbers = []; held = []; frames = frames; usable = usable; pages = pages }

-- the number is in the list
abbrev pub is_listed : ℕ → List ℕ → Bool
is_listed n [] = false
is_listed n (m ∷ ms) = if m == n then true else is_listed n ms

-- each held page has one of these numbers
abbrev pub AreListed : List ℕ → List Page → Type 0
AreListed ms ps = AllByRecursion (λ p. is_listed p.number ms ≡ true) ps

-- The numbers are those of the held pages, each once, and each is a page of the file.
pub record IsListing (c : Changed) : Type 0 where
  pub in_range : (k : ℕ) → k < length c.numbers → (1 ≤ slice_index c.numbers k) × (slice_index c.numbers k ≤ c.pages)
  pub apart : (j k : ℕ) → j < k → k < length c.numbers → slice_index c.numbers j ≢ slice_index c.numbers k
  pub named : (n : ℕ) → is_listed n c.numbers ≡ is_held n c.held
  pub filled : length c.numbers ≡ length c.held
  pub within : length c.numbers ≤ c.frames
  pub few : c.frames ≤ c.pages

-- these bytes over those of a page, from an offset on
abbrev pub with_bytes : ℕ → List ℕ → List ℕ → List ℕ
with_bytes at bytes page = take at page ++ (bytes ++ drop (at + length bytes) page)

-- page 1 begins as each database does: in an encrypted file it opens so, whatever is stored
abbrev pub HasMagic : List Page → Type 0
HasMagic held = is_held 1 held ≡ true → take 16 (bytes_of_page 1 held) ≡ magic

-- the bytes that the page at an index is sealed with: the pages' draws stand one after another
abbrev pub draw_of : ℕ → List ℕ → ℕ → List ℕ
draw_of reserve draws k = take reserve (drop (k * reserve) draws)

-- These stored bytes are the changed page at an index, sealed with its draw. They have the length of a page, are accepted, and open
-- to that page again, which has the usable length.
pub record IsPageSealed (keys : FileKeys) (c : Changed) (draws : List ℕ) (k : ℕ) (stored : List ℕ) : Type 0 where
  pub is :
      stored ≡ sealed keys (slice_index c.numbers k) (bytes_of_page (slice_index c.numbers k) c.held) (draw_of keys.profile.reserve draws k)
  pub size : length stored ≡ keys.profile.page_size
  pub accepted : IsTrue (accepts keys (slice_index c.numbers k) stored)
  pub opens_to : opened keys (slice_index c.numbers k) stored ≡ bytes_of_page (slice_index c.numbers k) c.held
  pub plain : length (bytes_of_page (slice_index c.numbers k) c.held) ≡ usable keys.profile

-- These bytes are the changed page at an index, with its draw behind it, where its stored page will be.
pub record IsLaid (keys : FileKeys) (c : Changed) (draws : List ℕ) (k : ℕ) (page : List ℕ) : Type 0 where
  pub is : page ≡ bytes_of_page (slice_index c.numbers k) c.held ++ draw_of keys.profile.reserve draws k
  pub plain : length (bytes_of_page (slice_index c.numbers k) c.held) ≡ usable keys.profile

-- These bytes begin with so many of the changed pages, one after another, each sealed with its draw.
pub record AreSealed (keys : FileKeys) (c : Changed) (draws stored : List ℕ) (count : ℕ) : Type 0 where
  pub size : keys.profile.page_size * count ≤ length stored
  pub pages : (k : ℕ) → k < count → IsPageSealed keys c draws k (nth_page keys.profile.page_size stored k)

-- These are the bytes that were drawn in between, so many. An entropy that does not tell says only how many they are.
pub record IsDrawn (tells : Bool) (before after : List ℕ) (count : ℕ) (draws : List ℕ) : Type 0 where
  pub many : length draws ≡ count
  pub told : IsTrue tells → after ≡ before ++ draws

-- the layout of both is the same: page size and reserve, and whether a file is read with its log
abbrev pub same_layout : FileKeys → FileKeys → Bool
same_layout read write =
    (read.profile.page_size == write.profile.page_size) && (read.profile.reserve == write.profile.reserve)
    && beq read.profile.reads_log write.profile.reads_log
