-- Images of pages laid over a file.
use Rattle.std.specs.Prelude.{ℕ, ◌+◌, ◌-◌, ◌*◌, ◌≡◌, ◌⊎◌, ◌<◌, ◌≤◌, min, max, List, [], ◌∷◌, ◌++◌, length, take, get_or}
use Rattle.edge_model.specs.Files.{written}
use Rattle.journal_format.specs.Records.{Record}

-- where the page with this number begins; pages are numbered from 1
abbrev pub page_start : ℕ → ℕ → ℕ
page_start size page = (page - 1) * size

-- the images laid in order, each at its page's place
abbrev pub laid : ℕ → List Record → List ℕ → List ℕ
laid size [] file = file
laid size (entry ∷ rest) file = laid size rest (written (page_start size entry.page) entry.image file)

-- how far the images reach
abbrev pub reach : ℕ → List Record → ℕ
reach size [] = 0
reach size (entry ∷ rest) = max (page_start size entry.page + size) (reach size rest)

-- some image gives the byte at this place
abbrev pub IsGivenByte : ℕ → List Record → ℕ → Type 0
IsGivenByte size [] i = ⊥
IsGivenByte size (entry ∷ rest) i = ((page_start size entry.page ≤ i) × (i < page_start size entry.page + size)) ⊎ IsGivenByte size rest i

-- each image has the size of a page, and none stands behind the end
abbrev pub AreSized : ℕ → ℕ → List Record → Type 0
AreSized size end [] = Unit {0}
AreSized size end (entry ∷ rest) =
    (length entry.image ≡ size) × (page_start size entry.page + size ≤ end) × AreSized size end rest

-- Main, filled up by any bytes as far as the images reach, with the images laid in order, and cut to its end
pub record PlaysTo (size end : ℕ) (records : List Record) (main file : List ℕ) : Type 0 where
  pub fill : List ℕ
  pub fills : length fill ≡ reach size records - length main
  pub is : file ≡ take end (laid size records (main ++ fill))

-- Main while the images are being laid over it, in any part, and while it is cut
pub record IsPartly (size end : ℕ) (records : List Record) (main now : List ℕ) : Type 0 where
  pub no_shorter : min (length main) end ≤ length now
  pub no_longer : length now ≤ max (length main) (reach size records)
  pub kept : (i : ℕ) → i < length main → i < end → IsGivenByte size records i ⊎ (get_or now i 0 ≡ get_or main i 0)

-- the images have this one among them
pub record IsOneOf (size : ℕ) (entry : Record) (records : List Record) : Type 0 where
  pub given : (i : ℕ) → page_start size entry.page ≤ i → i < page_start size entry.page + size → IsGivenByte size records i
  pub reached : page_start size entry.page + size ≤ reach size records
