-- What the open pages of a loader hold, in numbers.
use Rattle.std.specs.Prelude.{ℕ, ◌≡◌, ◌≤◌, ◌⊎◌, ◌+◌, ◌-◌, ◌*◌, ◌/◌, ◌%◌, ◌==◌, Bool, true, false, List, [], ◌∷◌, length, if◌then◌else◌}
use Rattle.btree_page.specs.declared.kind.Family.{Family}
use Rattle.btree_page.specs.Payload.{local_len}
use Rattle.btree_page.specs.declared.kind.Kind.{Kind}
use Rattle.btree_page.specs.declared.kind.Kind.TheVariants.{IndexInterior, IndexLeaf, TableInterior, TableLeaf}
use Rattle.page_build.specs.Draft.{Draft, room_of}
use Rattle.bulk_load.specs.declared.pair.Pair.{Pair}
use Rattle.bulk_load.specs.declared.level.Level.{Level}
use Rattle.bulk_load.specs.declared.loader.Loader.{Loader}

-- the cells of its page, and what waits
abbrev pub load : Level → ℕ
load level = length level.page.cells + length level.waiting.items

abbrev pub held : List Level → ℕ
held [] = 0
held (level ∷ levels) = load level + held levels

abbrev pub one_if : Bool → ℕ
one_if true = 1
one_if false = 0

-- What a loader holds, at which a cell of the leaf counts twice: once for its leaf, and once for a child above it. Each page that is
-- closed takes as much away as it adds to the count of pages.
abbrev pub weight : Loader → ℕ
weight loader = 2 * load loader.leaf + held loader.levels.items

-- on how many pages of this size so many bytes go
abbrev pub pages_for : ℕ → ℕ → ℕ
pages_for size bytes = bytes / size + (if bytes % size == 0 then 0 else 1)

-- the overflow pages of a payload of this length
abbrev pub overflow_pages : Family → ℕ → ℕ → ℕ
overflow_pages family usable len = pages_for (usable - 4) (len - local_len family usable len)

-- two wait, or one beside an empty page
abbrev pub IsBack : Draft → List Pair → Type 0
IsBack page [] = ⊥
IsBack page (pair ∷ []) = length page.cells ≡ 0
IsBack page (pair ∷ (other ∷ [])) = Unit {0}
IsBack page (pair ∷ (other ∷ (third ∷ more))) = ⊥

abbrev pub AreBack : List Level → Type 0
AreBack [] = Unit {0}
AreBack (level ∷ levels) = IsBack level.page level.waiting.items × AreBack levels

-- nothing is held yet, or it is so
abbrev pub IsPageBegun : Draft → List Pair → Type 0
IsPageBegun page waiting = ((length waiting ≡ 0) × (length page.cells ≡ 0)) ⊎ IsBack page waiting

-- the last that waits fits on the page
abbrev pub CanEnd : Draft → List Pair → Type 0
CanEnd page [] = Unit {0}
CanEnd page (pair ∷ []) = (length page.cells ≡ 0) ⊎ (length pair.cell.items + 2 ≤ room_of page)
CanEnd page (pair ∷ (other ∷ [])) = Unit {0}
CanEnd page (pair ∷ (other ∷ (third ∷ more))) = ⊥

-- on the leaf of a table nothing waits
abbrev pub LeafIsBack : Kind → Draft → List Pair → Type 0
LeafIsBack TableLeaf page waiting = length waiting ≡ 0
LeafIsBack IndexLeaf page waiting = IsPageBegun page waiting
LeafIsBack TableInterior page waiting = ⊥
LeafIsBack IndexInterior page waiting = ⊥

-- what a loader keeps back, so that the last page of each level gets a cell; a level stands only above a leaf with a cell
pub record KeepsBack (loader : Loader) : Type 0 where
  pub levels : AreBack loader.levels.items
  pub leaf : LeafIsBack loader.leaf.page.kind loader.leaf.page loader.leaf.waiting.items
  pub filled : (1 ≤ load loader.leaf) ⊎ (length loader.levels.items ≡ 0)
