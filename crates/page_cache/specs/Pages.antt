-- The held pages, the most recently used first.
use Rattle.std.specs.Prelude.{ℕ, ◌≡◌, ◌≤◌, ◌==◌, ◌+◌, ◌-◌, nat_eq, length, Bool, not, cond, false, List, [], ◌∷◌, map, filter, find, replicate, Option, None, Some, is_some}
use Rattle.std.specs.List.{AllByRecursion, IsDistinct}
use Rattle.std.specs.Option.{option_map, option_map_or, option_or}

-- a held page: its number, its bytes, how often it is pinned, and whether it was changed
pub record Page : Type 0 where
  pub number : ℕ
  pub bytes : List ℕ
  pub pins : ℕ
  pub dirty : Bool

-- what a cache is
pub record HeldPages : Type 0 where
  pub held : List Page
  pub frames : ℕ
  pub usable : ℕ

-- what holds of every cache
pub record IsSoundCache (pages : HeldPages) : Type 0 where
  pub distinct : IsDistinct nat_eq (map (λ page. page.number) pages.held)
  pub few : length pages.held ≤ pages.frames
  pub sized : AllByRecursion (λ page. length page.bytes ≡ pages.usable) pages.held

abbrev pub has_number : ℕ → Page → Bool
has_number n page = page.number == n

-- page n, where it is held
abbrev pub held_page : ℕ → List Page → Option Page
held_page n pages = find (has_number n) pages

-- the bytes of page n
abbrev pub held_bytes : ℕ → List Page → Option (List ℕ)
held_bytes n pages = option_map (λ page. page.bytes) (held_page n pages)

abbrev pub is_held : ℕ → List Page → Bool
is_held n pages = is_some (held_page n pages)

-- how often page n is pinned
abbrev pub pins_at : ℕ → List Page → ℕ
pins_at n pages = option_map_or (λ page. page.pins) (held_page n pages) 0

-- all but page n
abbrev pub without : ℕ → List Page → List Page
without n pages = filter (λ page. not (has_number n page)) pages

-- page n is first
abbrev pub moved_first : ℕ → List Page → List Page
moved_first n pages = option_map_or (λ page. page ∷ without n pages) (held_page n pages) pages

-- page n is changed, and all else stays
abbrev pub changed : ℕ → (Page → Page) → List Page → List Page
changed n change pages = map (λ page. cond (has_number n page) (change page) page) pages

-- the last page without a pin
abbrev pub last_unpinned : List Page → Option ℕ
last_unpinned [] = None
last_unpinned (page ∷ pages) = option_or (last_unpinned pages) (cond (page.pins == 0) (Some page.number) None)

-- page n is held and was changed
abbrev pub is_dirty : ℕ → List Page → Bool
is_dirty n pages = option_map_or (λ page. page.dirty) (held_page n pages) false

-- page n is held and has a pin
abbrev pub has_pin : ℕ → List Page → Bool
has_pin n pages = option_map_or (λ page. not (page.pins == 0)) (held_page n pages) false

-- one pin more, one less, and the mark of a change
abbrev pub pin_more : Page → Page
pin_more page = record page { pins = page.pins + 1 }

abbrev pub pin_less : Page → Page
pin_less page = record page { pins = page.pins - 1 }

abbrev pub with_dirty : Bool → Page → Page
with_dirty dirty page = record page { dirty = dirty }

-- a page that was placed just now
abbrev pub fresh_frame : ℕ → ℕ → Page
fresh_frame n usable = record { number = n; bytes = replicate usable 0; pins = 0; dirty = false }
