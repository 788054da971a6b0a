-- The lines of a schema row and of its tree.
use Rattle.std.proofs.Common.{◌≡◌, ℕ, zero, suc, List, [], ◌∷◌, ◌++◌, Some, length, map, refl, sym, ap, ◌∙◌}
use Rattle.std.specs.Prelude.{ℤ, pos, negsuc}
use Rattle.std.specs.List.{flat_map}
use Rattle.std.proofs.lemmas.List.{length-map}
use Rattle.db_format.specs.Pages.{Pages}
use Rattle.db_format.specs.Record.{columns}
use Rattle.db_format.specs.Value.{Datum}
use Rattle.db_format.specs.Value.Datum.{null, int, float, text, blob}
use Rattle.btree_model.specs.Content.{SchemaItem, entry_of, item_of, item_with, without_fourth}
use Rattle.btree_model.specs.Finding.{Row}
use Rattle.btree_model.specs.Schema.{Root, no_column, no_tree, at_page, root_of, root_of_value, rowid_or_0}
use Rattle.btree_model.specs.Tree.{root_family}
use Rattle.export_rows.specs.Lines.{schema_line}
use Rattle.row_text.specs.Lines.{entry_text, row_text}
use Rattle.export_rows.specs.Report.{item_at, item_count, item_text}
use Rattle.schema_map.specs.Alone.{tree_rows}
use Rattle.schema_map.specs.Root.{number_of, root_number}

-- no row has its root at page 0
value_root : (value : Datum) → root_of_value value ≡ at_page (pos 0) → ⊥
value_root null e = cc
value_root (int (pos zero)) e = cc
value_root (int (pos (suc n))) e = cc
value_root (int (negsuc n)) e = cc
value_root (float bytes) e = cc
value_root (text bytes) e = cc
value_root (blob bytes) e = cc

row_root : (values : List Datum) → root_of values ≡ at_page (pos 0) → ⊥
row_root [] e = cc
row_root (a ∷ []) e = cc
row_root (a ∷ (b ∷ [])) e = cc
row_root (a ∷ (b ∷ (c ∷ []))) e = cc
row_root (a ∷ (b ∷ (c ∷ (d ∷ [])))) e = cc
row_root (a ∷ (b ∷ (c ∷ (d ∷ (f ∷ more))))) e = value_root d e

-- the text of the tree's entries, as rows
entries_text : (rows : List Row) → flat_map entry_text (map entry_of rows) ≡ flat_map row_text rows
entries_text [] = refl
entries_text (row ∷ rows) = ap (λ l. row_text row ++ l) (entries_text rows)

module _ (pages : Pages) (row : Row) (values : List Datum) where
  -- a row without a tree
  alone_by : (root : Root) → (root ≡ at_page (pos 0) → ⊥) → root_number root ≡ 0
      → item_with pages (rowid_or_0 row.rowid) row.payload values root ≡ SchemaItem.alone (rowid_or_0 row.rowid) row.payload
  alone_by no_column some zero-is = refl
  alone_by no_tree some zero-is = refl
  alone_by (at_page (negsuc n)) some zero-is = refl
  alone_by (at_page (pos n)) some zero-is = absurd (some (ap (λ k. at_page (pos k)) zero-is))

  -- a row with one
  tree_by : (root : Root) (n : ℕ) → root_number root ≡ n → (n ≡ 0 → ⊥)
      → item_with pages (rowid_or_0 row.rowid) row.payload values root
      ≡ SchemaItem.with_tree (rowid_or_0 row.rowid) (without_fourth values) (root_family n (pages.page n)) (map entry_of (tree_rows pages n))
  tree_by no_column n is some = absurd (some (sym is))
  tree_by no_tree n is some = absurd (some (sym is))
  tree_by (at_page (negsuc m)) n is some = absurd (some (sym is))
  tree_by (at_page (pos m)) n is some =
      ap (λ k. SchemaItem.with_tree (rowid_or_0 row.rowid) (without_fourth values) (root_family k (pages.page k)) (map entry_of (tree_rows pages k))) is

module _ (pages : Pages) (rowid : ℤ) (payload : List ℕ) (values : List Datum) (is : columns payload ≡ Some values) where
  number_is : number_of (columns payload) ≡ root_number (root_of values)
  number_is = ap number_of is

  module _ (n : ℕ) (number : number_of (columns payload) ≡ n) (some : n ≡ 0 → ⊥) where
    tree_item : item_at pages rowid payload ≡ SchemaItem.with_tree rowid (without_fourth values) (root_family n (pages.page n)) (map entry_of (tree_rows pages n))
    tree_item =
        ap (item_of pages (record { rowid = Some rowid; payload = payload; page = 0 })) is
        ∙ tree_by pages (record { rowid = Some rowid; payload = payload; page = 0 }) values (root_of values) n (sym number_is ∙ number) some

    pub tree_text : item_text (item_at pages rowid payload)
        ≡ schema_line rowid (without_fourth values) (Some (root_family n (pages.page n))) ++ flat_map row_text (tree_rows pages n)
    tree_text =
        ap item_text tree_item
        ∙ ap (λ l. schema_line rowid (without_fourth values) (Some (root_family n (pages.page n))) ++ l) (entries_text (tree_rows pages n))

    pub tree_count : item_count (item_at pages rowid payload) ≡ length (tree_rows pages n)
    tree_count = ap item_count tree_item ∙ length-map (tree_rows pages n) entry_of
