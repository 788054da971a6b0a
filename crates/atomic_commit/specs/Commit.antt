-- What a commit leaves: the changed pages, sealed, and every other page as it was.
use Rattle.std.specs.Prelude.{ℕ, ◌≡◌, ◌≢◌, ◌⊎◌, ◌<◌, ◌≤◌, List, length, slice_index, None}
use Rattle.edge_model.specs.Files.{Files}
use Rattle.edge_model.specs.Images.{LeavesOnly}
use Rattle.atomic_commit.specs.Database.{Base, stored_page, stored_pages, HoldsPages, HoldsOld, HoldsEither}

-- the numbers of the changed pages: each is one of the database, and no two are the same
pub record AreChanges (pages : ℕ) (numbers : List ℕ) : Type 0 where
  pub few : length numbers ≤ pages
  pub in_range : (k : ℕ) → k < length numbers → (1 ≤ slice_index numbers k) × (slice_index numbers k ≤ pages)
  pub apart : (j k : ℕ) → j < k → k < length numbers → slice_index numbers j ≢ slice_index numbers k

-- what counts as a page sealed stays the same
abbrev pub SameSeals : (ℕ → List ℕ → Type 0) → (ℕ → List ℕ → Type 0) → Type 0
SameSeals old new = (k : ℕ) → (stored : List ℕ) → (new k stored → old k stored) × (old k stored → new k stored)

-- Main with the first of the changes: each of these pages is sealed, and every other page is as at the start.
pub record IsChanged (base : Base) (numbers : List ℕ) (seals : ℕ → List ℕ → Type 0) (done : ℕ) (main : List ℕ) : Type 0 where
  pub sealed : (k : ℕ) → k < done → seals k (stored_page base.size (slice_index numbers k) main)
  pub others : (n : ℕ) → 1 ≤ n → n ≤ base.pages → ((k : ℕ) → k < done → slice_index numbers k ≢ n) →
      stored_page base.size n main ≡ stored_page base.size n base.start

-- At each moment the old database alone is recovered, or there is one Main with the changes, and it is that or the old one.
abbrev pub LeavesChanged : {D : Type 0} → (D → ℕ) → (D → ℕ → Files → Type 0) → Base → (List ℕ → Type 0) → D → D → Type 0
LeavesChanged moment since base changed old new =
    LeavesOnly moment since old new (HoldsOld base)
    ⊎ ((main : List ℕ) × changed main
    × LeavesOnly moment since old new (HoldsEither base (stored_pages base.size base.pages main)))

-- after a commit: no journal is there, and the pages of this Main alone are recovered
abbrev pub IsCommitted : Base → List ℕ → Files → Type 0
IsCommitted base main image = HoldsPages base (stored_pages base.size base.pages main) image × (image.journal ≡ None)
