-- Several parts of a database in order, with the marks before and after them.
use Rattle.std.specs.Prelude.{◌≡◌, ◌≤◌, ℕ, ◌+◌, ◌*◌, ◌^◌, Bool, true, false, List, [], ◌∷◌, ◌++◌, drop, map, length, sum, Result, Ok, Err, if◌then◌else◌, ⊤}
use Rattle.std.specs.List.{Contains, list_all}
use Rattle.db_format.specs.Pages.{Pages, also, is_page}
use Rattle.db_format.specs.Seen.{marked, open_count}
use Rattle.btree_model.specs.Finding.{Finding, places, entries, is_sound}
use Rattle.btree_model.specs.Parts.{first_faults, first_refusals, all_places}
use Rattle.btree_walk.specs.declared.error.WalkError.{WalkError}
use Rattle.btree_walk.specs.declared.error.WalkError.TheVariants.{Defect, Source, OutOfMemory}
use Rattle.schema_map.specs.declared.trees.TreeCounts.{TreeCounts}

-- the places of the parts up to the first that has a defect
abbrev pub first_places : List (List Finding) → List ℕ
first_places [] = []
first_places (part ∷ rest) = places part ++ (if is_sound part then first_places rest else [])

-- the source refused a page at a sound place of a part before which no part has a defect; where the page is not accepted,
-- it is one of those refused in the earliest part that has a defect or a refused page
pub record IsRefusedEarly {R : Type 0} (refuses : Pages → ℕ → R → Type 0) (pages : Pages) (parts : List (List Finding)) (refusal : R) : Type 0 where
  pub page : ℕ
  pub range : is_page pages page ≡ true
  pub placed : Contains (first_places parts) page
  pub refused : refuses pages page refusal
  pub listed : pages.accepts page ≡ false → Contains (first_refusals parts) page

-- a defect of the earliest part that has one, or a refusal of one of its pages or of those of a part before it
abbrev pub IsEarliest : {R : Type 0} → (Pages → ℕ → R → Type 0) → Pages → List (List Finding) → WalkError R → Type 0
IsEarliest refuses pages parts (Defect d) = Contains (first_faults parts) d
IsEarliest refuses pages parts (Source refusal) = IsRefusedEarly refuses pages parts refusal
IsEarliest refuses pages parts OutOfMemory = ⊤

-- how many pages have no mark: number 0 is that of none
abbrev pub open_pages : List Bool → ℕ
open_pages marks = open_count (drop 1 marks)

-- no part has a defect; their places are marked, and there are so many parts and entries
pub record AreSound (parts : List (List Finding)) (old new : List Bool) (count rows : ℕ) : Type 0 where
  pub sound : list_all is_sound parts ≡ true
  pub marks : marked new ≡ also (all_places parts) (marked old)
  pub counted : count ≡ length parts
  pub given : rows ≡ sum (map (λ part. length (entries part)) parts)
  -- each part has a page of its own, and a page has less than 2^21 entries
  pub fewer : count + open_pages new ≤ open_pages old
  pub few : rows + 2 ^ 21 * open_count new ≤ 2 ^ 21 * open_count old

abbrev pub AreChecked : {R : Type 0} → (Pages → ℕ → R → Type 0) → Pages → List (List Finding) → List Bool → List Bool → Result TreeCounts (WalkError R) → Type 0
AreChecked refuses pages parts old new (Ok counts) = AreSound parts old new counts.trees counts.entries
AreChecked refuses pages parts old new (Err error) = IsEarliest refuses pages parts error
