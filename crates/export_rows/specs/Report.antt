-- The text of a content: the line of the database, then each schema row with the entries of its tree, and last `end`.
use Rattle.std.specs.Prelude.{ℕ, ℤ, List, [], ◌++◌, length, Some, None, unwrap_or, sum_by}
use Rattle.std.specs.List.{flat_map}
use Rattle.db_format.specs.Pages.{Pages}
use Rattle.db_format.specs.Record.{columns}
use Rattle.btree_model.specs.Finding.{entries}
use Rattle.btree_model.specs.Content.{Content, SchemaItem, with_tree, alone, item_of, without_fourth}
use Rattle.row_text.specs.Lines.{entry_text}
use Rattle.export_rows.specs.Lines.{database_line, end_line, schema_line}

abbrev pub item_text : SchemaItem → List ℕ
item_text (with_tree rowid values family entries) = schema_line rowid values (Some family) ++ flat_map entry_text entries
item_text (alone rowid payload) = schema_line rowid (without_fourth (unwrap_or (columns payload) [])) None

abbrev pub export_report : Content → List ℕ
export_report held = database_line held.kept ++ flat_map item_text held.rows ++ end_line

-- how many lines of rows and entries it has
abbrev pub item_count : SchemaItem → ℕ
item_count (with_tree rowid values family entries) = length entries
item_count (alone rowid payload) = 0

abbrev pub entry_count : Content → ℕ
entry_count held = sum_by item_count held.rows

-- ---- one schema row

-- the schema row with this rowid and payload, as a part of the content
abbrev pub item_at : Pages → ℤ → List ℕ → SchemaItem
item_at pages rowid payload = item_of pages (record { rowid = Some rowid; payload = payload; page = 0 }) (columns payload)
