-- The lines of rows and entries. Each ends with a line feed, and numbers are decimal.
use Rattle.std.specs.Prelude.{ℤ, ℕ, List, [], ◌++◌, codes, Option, Some, None, unwrap_or}
use Rattle.std.specs.Fmt.{signed_decimal}
use Rattle.db_format.specs.Record.{columns}
use Rattle.db_format.specs.Text.{spaced}
use Rattle.db_format.specs.Value.{Datum}
use Rattle.btree_model.specs.Content.{Entry, entry_of}
use Rattle.btree_model.specs.Finding.{Row}
use Rattle.text_lines.specs.Text.{line}

-- what an entry begins with: its rowid, in a table
abbrev pub entry_head : Option ℤ → List ℕ
entry_head None = codes "entry"
entry_head (Some rowid) = codes "row " ++ signed_decimal rowid

abbrev pub entry_line : Option ℤ → List Datum → List ℕ
entry_line rowid values = line (entry_head rowid ++ spaced values)

abbrev pub entry_text : Entry → List ℕ
entry_text entry = entry_line entry.rowid (unwrap_or (columns entry.payload) [])

abbrev pub row_text : Row → List ℕ
row_text row = entry_text (entry_of row)
