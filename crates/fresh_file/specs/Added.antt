-- Held pages, with one more.
use Rattle.std.specs.Prelude.{◌≡◌, ℕ, ◌+◌, ◌<◌, List, slice_index}
use Rattle.page_codec.specs.Pages.{nth_page}
use Rattle.fresh_file.specs.declared.held.HeldPages.{HeldPages}

-- the first so many have the same numbers and the same bytes
abbrev pub AreSame : ℕ → ℕ → List ℕ → List ℕ → List ℕ → List ℕ → Type 0
AreSame size count numbers room new_numbers new_room =
    (k : ℕ) → k < count → (slice_index new_numbers k ≡ slice_index numbers k) × (nth_page size new_room k ≡ nth_page size room k)

-- page n is held too, last, as these bytes
pub record IsAdded (old new : HeldPages) (n : ℕ) (page : List ℕ) : Type 0 where
  pub size : new.size ≡ old.size
  pub count : new.count ≡ old.count + 1
  pub number : slice_index new.numbers.items old.count ≡ n
  pub here : nth_page old.size new.room.items old.count ≡ page
  pub others : AreSame old.size old.count old.numbers.items old.room.items new.numbers.items new.room.items
