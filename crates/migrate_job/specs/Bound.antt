-- How many pages a migrated file has at most.
use Rattle.std.specs.Prelude.{ℕ, ◌+◌, ◌*◌, ◌-◌, max, pos, List, [], ◌∷◌, ◌++◌, length, map, sum, take, drop}
use Rattle.std.specs.List.{range_with_len}
use Rattle.btree_page.specs.declared.kind.Family.TheVariants.{Table}
use Rattle.btree_model.specs.Content.{Content, SchemaItem, with_tree, alone}
use Rattle.bulk_load.specs.Bound.{chain_pages, tree_pages}
use Rattle.bulk_load.specs.Count.{overflow_pages}
use Rattle.db_format.specs.Row.{record_bytes}
use Rattle.db_format.specs.Value.{Datum}
use Rattle.db_format.specs.Value.Datum.{int}

-- the values of a schema row with this root page, of its other columns
abbrev pub with_root : ℕ → List Datum → List Datum
with_root root others = take 3 others ++ int (pos root) ∷ drop 3 others

abbrev pub most_of : List ℕ → ℕ
most_of [] = 0
most_of (n ∷ rest) = max n (most_of rest)

-- the most overflow pages that a row with a tree takes, whichever root page up to the limit it names
abbrev pub row_chain : ℕ → ℕ → List Datum → ℕ
row_chain usable limit others =
    most_of (map (λ root. overflow_pages Table usable (length (record_bytes (with_root root others)))) (range_with_len 2 (limit - 1)))

-- the overflow pages of a row of the schema
abbrev pub schema_chain : ℕ → ℕ → SchemaItem → ℕ
schema_chain usable limit (with_tree rowid others family entries) = row_chain usable limit others
schema_chain usable limit (alone rowid payload) = overflow_pages Table usable (length payload)

-- the pages of its tree at most
abbrev pub item_pages : ℕ → SchemaItem → ℕ
item_pages usable (with_tree rowid others family entries) = tree_pages family usable entries + chain_pages family usable entries
item_pages usable (alone rowid payload) = 0

-- the pages of a file of this content at most: those of its trees, those of its schema, and page 1
abbrev pub pages_at_most : ℕ → ℕ → Content → ℕ
pages_at_most usable limit held =
    sum (map (item_pages usable) held.rows) + sum (map (schema_chain usable limit) held.rows) + (2 * length held.rows + 1) + 1
