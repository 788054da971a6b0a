-- Pages that were read before they are asked for.
use Rattle.std.specs.Prelude.{ℕ, ◌≡◌, ◌+◌, ◌*◌, ◌≤◌, ◌<◌, Bool, true, false, List, length, take, slice_index, slice_index_or}
use Rattle.std.proofs.Props.{props}
use Rattle.cipher_profile.specs.Profile.{usable}
use Rattle.page_codec.specs.Page.{FileKeys, accepts, opened, stored_page}
use Rattle.page_codec.specs.Pages.{nth_page}
use Rattle.pager.specs.File.{page_stored}
use Rattle.pager.specs.declared.window.Window.{Window}

-- page n is accepted, and its plain page is in front of these bytes
pub record IsReadAhead (keys : FileKeys) (file : List ℕ) (n : ℕ) (page : List ℕ) : Type 0 where
  pub accepted : accepts keys n (page_stored keys file n) ≡ true
  pub plain : take (usable keys.profile) page ≡ opened keys n (page_stored keys file n)

-- so many pages of these numbers stand one after another, and those that are held were opened
abbrev pub AreReadAhead : FileKeys → List ℕ → List ℕ → ℕ → List Bool → List ℕ → Type 0
AreReadAhead keys file numbers count held pages = (i : ℕ) → i < count → slice_index_or held i false ≡ true
    → IsReadAhead keys file (slice_index numbers i) (nth_page keys.profile.page_size pages i)

-- the pages of a window were
abbrev pub IsAhead : FileKeys → List ℕ → Window → List ℕ → Type 0
IsAhead keys file window pages = AreReadAhead keys file window.numbers window.count window.held pages

-- it has one proof at most
pub IsAhead-prop : (keys : FileKeys) (file : List ℕ) (window : Window) (pages : List ℕ) → IsProp (IsAhead keys file window pages)
IsAhead-prop keys file window pages = hlevel props

-- none of so many pages is page 1
abbrev pub AreNumbered : List ℕ → ℕ → Type 0
AreNumbered numbers count = (i : ℕ) → i < count → 2 ≤ slice_index numbers i

-- each of so many pages of this size is whole within the file
abbrev pub AreWhole : ℕ → List ℕ → List ℕ → ℕ → Type 0
AreWhole size file numbers count = (i : ℕ) → i < count → slice_index numbers i * size ≤ length file

-- so many pages of these numbers stand one after another as they are stored in the file
abbrev pub AreStored : ℕ → List ℕ → List ℕ → ℕ → List ℕ → Type 0
AreStored size file numbers count pages = (i : ℕ) → i < count → nth_page size pages i ≡ stored_page size (slice_index numbers i) file

-- there are pages, and they stand one after another in a file
abbrev pub IsRun : List ℕ → Type 0
IsRun numbers = (1 ≤ length numbers) × ((i : ℕ) → i < length numbers → slice_index numbers i ≡ slice_index numbers 0 + i)
