-- How many levels a tree has at most: each page that is closed had two cells, and so three children.
use Rattle.std.specs.Prelude.{ℕ, ◌≡◌, ◌+◌, ◌*◌, ◌≤◌, ◌⊎◌, List, [], ◌∷◌, length}
use Rattle.btree_page.specs.declared.kind.Kind.{Kind}
use Rattle.btree_page.specs.declared.kind.Kind.TheVariants.{IndexInterior, IndexLeaf, TableInterior, TableLeaf}
use Rattle.bulk_load.specs.declared.level.Level.{Level}
use Rattle.bulk_load.specs.declared.loader.Loader.{Loader}
use Rattle.bulk_load.specs.Count.{KeepsBack, load}

-- three cells as long as each of these fit on a page of this usable size
abbrev pub AreShort : ℕ → List (List ℕ) → Type 0
AreShort usable [] = Unit {0}
AreShort usable (cell ∷ cells) = (3 * (length cell + 2) + 12 ≤ usable) × AreShort usable cells

abbrev pub AreLevelsShort : ℕ → List Level → Type 0
AreLevelsShort usable [] = Unit {0}
AreLevelsShort usable (level ∷ levels) = AreShort usable level.page.cells × AreLevelsShort usable levels

-- nothing waits, or its cells are short
abbrev pub MayEnd : ℕ → Level → Type 0
MayEnd usable level = (length level.waiting.items ≡ 0) ⊎ AreShort usable level.page.cells

-- the cells of a row may be long, and none of them waits
abbrev pub LeafIsShort : Kind → ℕ → Level → Type 0
LeafIsShort TableLeaf usable level = length level.waiting.items ≡ 0
LeafIsShort IndexLeaf usable level = AreShort usable level.page.cells
LeafIsShort TableInterior usable level = ⊥
LeafIsShort IndexInterior usable level = ⊥

-- the cells between children are short
pub record KeepsShort (usable : ℕ) (loader : Loader) : Type 0 where
  pub levels : AreLevelsShort usable loader.levels.items
  pub leaf : LeafIsShort loader.leaf.page.kind usable loader.leaf

-- so many pages were closed at least, for these levels to hold what they hold
abbrev pub closed_below : List Level → ℕ
closed_below [] = 0
closed_below (level ∷ levels) = load level + 3 * closed_below levels

-- The count of pages rose from the first number to the second while the levels were filled, and they stand on no more closed pages
-- than that. So a tree that is too deep has 2^28 pages.
pub record IsShallow (usable from to : ℕ) (loader : Loader) : Type 0 where
  pub back : KeepsBack loader
  pub short : KeepsShort usable loader
  pub closed : closed_below loader.levels.items + from ≤ to
