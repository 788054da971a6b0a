-- Trees on pages of their own, and what a database of them holds.
use Rattle.std.specs.Prelude.{◌≡◌, ◌==◌, ℕ, pos, Bool, true, false, ◌||◌, List, [], ◌∷◌, Option, Some, None, length, map, is_some}
use Rattle.std.specs.List.{list_all, list_any}
use Rattle.std.specs.Option.{option_map}
use Rattle.db_format.specs.Bytes.{u32_at}
use Rattle.db_format.specs.Pages.{Pages, Test, nothing}
use Rattle.db_format.specs.Record.{columns}
use Rattle.db_format.specs.Value.{Datum}
use Rattle.btree_page.specs.declared.kind.Family.{Family}
use Rattle.btree_model.specs.Content.{Entry, HoldsContent, SchemaItem, with_tree, alone, entry_of, kept_fields, without_fourth}
use Rattle.btree_model.specs.Finding.{places}
use Rattle.btree_model.specs.Parts.{counts}
use Rattle.btree_model.specs.Range.{is_in_range}
use Rattle.btree_model.specs.Schema.{at_page, no_tree, root_of, rowid_or_0}
use Rattle.btree_model.specs.Tree.{tree, tree_walk}
use Rattle.bulk_load.specs.Headed.{IsHeaded}
use Rattle.bulk_load.specs.Own.{only}

-- the tree with this root
pub record HasTree (pages : Pages) (family : Family) (root : ℕ) (entries : List Entry) : Type 0 where
  -- it has no defect, and these entries in order
  pub lists : option_map (map entry_of) (tree pages family root) ≡ Some entries
  -- and no page that was put stands beside it
  pub whole : (n : ℕ) → pages.accepts n ≡ true → list_any (λ m. m == n) (places (tree_walk pages family nothing root)) ≡ true

-- the payload is a record
abbrev pub is_record : Entry → Bool
is_record e = is_some (columns e.payload)

-- a database header that names no freelist
pub record HasNoFreelist (head : List ℕ) : Type 0 where
  pub long : length head ≡ 100
  pub trunk : u32_at head 32 ≡ 0
  pub count : u32_at head 36 ≡ 0

-- The pages are a database with these schema items, whichever such header stands in front of page 1: no part has a defect, and the
-- content is this.
abbrev pub HoldsItems : Pages → List SchemaItem → Type 0
HoldsItems pages items =
    (head : List ℕ) (whole : Pages) → HasNoFreelist head → IsHeaded head pages whole → HoldsContent whole (record { kept = kept_fields head; rows = items })

-- every page of the database stands in the schema or in a tree
pub record IsTight (pages : Pages) : Type 0 where
  pub free : (counts pages).free ≡ 0
  pub unused : (counts pages).unused ≡ 0

-- the pages are so, whichever such header stands in front of page 1
abbrev pub IsTightBehind : Pages → Type 0
IsTightBehind pages = (head : List ℕ) (whole : Pages) → HasNoFreelist head → IsHeaded head pages whole → IsTight whole

-- ---- a schema with its trees

-- a tree, and the test of its pages
pub record OwnTree : Type 0 where
  pub root : ℕ
  pub family : Family
  pub entries : List Entry
  pub own : Test

-- a row of the schema: its entry, the values of its record, and the tree that it names
pub record SchemaPlan : Type 0 where
  pub entry : Entry
  pub values : List Datum
  pub tree : Option OwnTree

abbrev pub plan_entry : SchemaPlan → Entry
plan_entry plan = plan.entry

-- the row in the content of a database
abbrev pub item_with_tree : Entry → List Datum → Option OwnTree → SchemaItem
item_with_tree entry values None = alone (rowid_or_0 entry.rowid) entry.payload
item_with_tree entry values (Some t) = with_tree (rowid_or_0 entry.rowid) (without_fourth values) t.family t.entries

abbrev pub plan_item : SchemaPlan → SchemaItem
plan_item plan = item_with_tree plan.entry plan.values plan.tree

-- no number passes both tests
abbrev pub Apart : Test → Test → Type 0
Apart own other = (n : ℕ) → own n ≡ true → other n ≡ false

-- the pages of a test are pages of the database other than page 1
abbrev pub Within : Pages → Test → Type 0
Within pages own = (n : ℕ) → own n ≡ true → is_in_range pages n ≡ true

abbrev pub either : Test → Test → Test
either own taken n = own n || taken n

-- the row with these values names the root of the tree, which stands on its own pages, and whose entries are records
pub record IsPlanted (pages : Pages) (values : List Datum) (t : OwnTree) : Type 0 where
  pub named : root_of values ≡ at_page (pos t.root)
  pub range : is_in_range pages t.root ≡ true
  pub has : HasTree (only t.own pages) t.family t.root t.entries
  pub records : list_all is_record t.entries ≡ true
  pub within : Within pages t.own

abbrev pub NamesTree : Pages → List Datum → Option OwnTree → Type 0
NamesTree pages values None = root_of values ≡ no_tree
NamesTree pages values (Some t) = IsPlanted pages values t

pub record IsPlan (pages : Pages) (plan : SchemaPlan) : Type 0 where
  pub reads : columns plan.entry.payload ≡ Some plan.values
  pub names : NamesTree pages plan.values plan.tree

-- the pages of a row's tree
abbrev pub own_pages : Option OwnTree → Test
own_pages None n = false
own_pages (Some t) n = t.own n

-- each row is one, and its tree stands apart from `taken` and from the trees of the rows before it
abbrev pub ArePlans : Pages → Test → List SchemaPlan → Type 0
ArePlans pages taken [] = Unit {0}
ArePlans pages taken (plan ∷ plans) =
    IsPlan pages plan × Apart (own_pages plan.tree) taken × ArePlans pages (either (own_pages plan.tree) taken) plans
