-- What a database holds, whatever its page size, its page numbers and its keys.
use Rattle.std.specs.Prelude.{ℕ, ℤ, pos, negsuc, ◌≡◌, true, List, [], ◌∷◌, map, take, drop, ◌++◌, Option, Some, None}
use Rattle.btree_page.specs.declared.kind.Family.{Family}
use Rattle.btree_page.specs.declared.kind.Family.TheVariants.{Table}
use Rattle.db_format.specs.Bytes.{u32_at}
use Rattle.db_format.specs.Value.{Datum}
use Rattle.db_format.specs.Record.{columns}
use Rattle.db_format.specs.Pages.{Pages, nothing}
use Rattle.btree_model.specs.Finding.{Row, entries}
use Rattle.btree_model.specs.Tree.{root_family, tree_walk}
use Rattle.btree_model.specs.Schema.{Root, no_column, no_tree, at_page, root_of, rowid_or_0}
use Rattle.btree_model.specs.Parts.{is_database}

-- an entry without its page
pub record Entry : Type 0 where
  pub rowid : Option ℤ
  pub payload : List ℕ

abbrev pub entry_of : Row → Entry
entry_of row = record { rowid = row.rowid; payload = row.payload }

-- the last rowid behind an entry: its own, where it has one
abbrev pub last_after : Option ℤ → Option ℤ → Option ℤ
last_after last None = last
last_after last (Some rowid) = Some rowid

-- a schema row: with a tree its rowid, its columns without the root page, the family and the entries of its tree;
-- without one its rowid and its payload
pub data SchemaItem : Type 0 where
  with_tree : ℤ → List Datum → Family → List Entry → SchemaItem
  alone : ℤ → List ℕ → SchemaItem

abbrev pub without_fourth : List Datum → List Datum
without_fourth values = take 3 values ++ drop 4 values

abbrev pub item_with : Pages → ℤ → List ℕ → List Datum → Root → SchemaItem
item_with pages rowid payload values no_column = alone rowid payload
item_with pages rowid payload values no_tree = alone rowid payload
item_with pages rowid payload values (at_page (negsuc n)) = alone rowid payload
item_with pages rowid payload values (at_page (pos root)) =
    let family = root_family root (pages.page root) in
    with_tree rowid (without_fourth values) family (map entry_of (entries (tree_walk pages family nothing root)))

abbrev pub item_of : Pages → Row → Option (List Datum) → SchemaItem
item_of pages row None = alone (rowid_or_0 row.rowid) row.payload
item_of pages row (Some values) = item_with pages (rowid_or_0 row.rowid) row.payload values (root_of values)

pub record Content : Type 0 where
  pub kept : List ℕ
  pub rows : List SchemaItem

-- schema cookie and format, cache size, text encoding, user version, application id, SQLite version number
abbrev pub kept_fields : List ℕ → List ℕ
kept_fields page = map (u32_at page) (40 ∷ 44 ∷ 48 ∷ 56 ∷ 60 ∷ 68 ∷ 96 ∷ [])

abbrev pub content : Pages → Content
content pages =
    record {
      kept = kept_fields (pages.page 1);
      rows = map (λ row. item_of pages row (columns row.payload)) (entries (tree_walk pages Table nothing 1));
    }

-- no part has a defect, and this is the content; the key and the count of pages are looked at elsewhere
pub record HoldsContent (pages : Pages) (held : Content) : Type 0 where
  pub sound : is_database pages ≡ true
  pub is : content pages ≡ held
