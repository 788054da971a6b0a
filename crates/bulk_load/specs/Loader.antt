-- What a loader holds.
use Rattle.std.specs.Option.{option_map_or}
use Rattle.std.specs.Prelude.{Bool, false, None, is_some, is_none, ℕ, ◌≡◌, ℤ, List, [], ◌++◌, length, take, Option, Some, FitsSigned, nat_le, if◌then◌else◌}
use Rattle.std.specs.Int.{w64}
use Rattle.btree_page.specs.declared.kind.Kind.{Kind}
use Rattle.btree_page.specs.declared.kind.Family.{Family}
use Rattle.btree_page.specs.declared.kind.Family.TheVariants.{Table, Index}
use Rattle.btree_page.specs.declared.kind.Kind.TheVariants.{TableLeaf}
use Rattle.btree_page.specs.Cell.{StoredCell}
use Rattle.btree_page.specs.Payload.{local_len}
use Rattle.db_format.specs.Pages.{IsUsable, Pages}
use Rattle.btree_page.specs.Step.{Step}
use Rattle.btree_model.specs.Content.{Entry}
use Rattle.load_model.specs.Open.{at_height}
use Rattle.load_model.specs.Stands.{OpenPagesStand, is_at_most}
use Rattle.btree_page.specs.Kind.{family_of, is_interior}
use Rattle.bulk_load.specs.declared.level.Level.{Level}
use Rattle.bulk_load.specs.declared.loader.Loader.{Loader}
use Rattle.bulk_load.specs.Settle.{up_kind}
use Rattle.bulk_load.specs.Level.{IsLevelReady, HoldsLevel}
use Rattle.bulk_load.specs.Levels.{AreReady, HoldLevels, opened}

-- a loader that may go on: so one that was made, until a call is refused for another cause than the order of rowids
pub record IsLoader (loader : Loader) (usable : ℕ) : Type 0 where
  pub usable_is : IsUsable usable
  pub leaf : IsLevelReady loader.leaf usable
  pub leaf_kind : is_interior loader.leaf.page.kind ≡ false
  pub levels : AreReady loader.levels.items usable
  pub spare : length loader.spare.items ≡ usable
  pub range : (k : ℤ) → loader.last ≡ Some k → FitsSigned w64 k
  -- before the first row the leaf of a table is empty
  pub first : loader.leaf.page.kind ≡ TableLeaf → loader.last ≡ None → loader.leaf.page.cells ≡ []

-- the open pages of a loader of this leaf kind, with what was put below them, give this list
pub record LoadedAs (pages : Pages) (leaf : Level) (levels : List Level) (kind : Kind) (last : Option ℤ) (pushed : List Entry) : Type 0 where
  pub todo : List Step
  pub todos : List (List Step)
  pub is_kind : leaf.page.kind ≡ kind
  pub hold : HoldsLevel leaf pages.usable todo
  pub above : HoldLevels levels pages.usable (up_kind kind) todos
  pub stands : OpenPagesStand pages (family_of kind) last (opened 1 todos ++ (at_height 0 todo ++ [])) pushed

-- these entries were pushed: the open pages, with what was put below them, give them in order
abbrev pub Loaded : Pages → Loader → List Entry → Type 0
Loaded pages loader pushed = LoadedAs pages loader.leaf loader.levels.items loader.leaf.page.kind loader.last pushed

-- what the loader's tree holds
abbrev pub family_of_loader : Loader → Family
family_of_loader loader = family_of loader.leaf.page.kind

-- an entry has a rowid exactly in a table
abbrev pub is_for : Family → Option ℤ → Bool
is_for Table rowid = is_some rowid
is_for Index rowid = is_none rowid

-- the rowid is not above the last
abbrev pub is_late : Loader → Option ℤ → Bool
is_late loader rowid = option_map_or (is_at_most loader.last) rowid false

-- a payload as its cell has it, where its chain begins at `first`
abbrev pub stored_as : Family → ℕ → List ℕ → ℕ → StoredCell
stored_as family usable payload first =
    record {
      size = length payload;
      local = take (local_len family usable (length payload)) payload;
      first = if nat_le (length payload) (local_len family usable (length payload)) then 0 else first;
    }
