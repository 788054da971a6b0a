-- The lines of a content: one of the database, one for each schema row, and one for each entry of its tree. Each ends with a line
-- feed, and numbers are decimal.
use Rattle.std.specs.Prelude.{ℕ, ℤ, List, [], ◌∷◌, ◌++◌, codes, decimal, take, drop, slice_index, Option, Some, None}
use Rattle.std.specs.Fmt.{signed_decimal}
use Rattle.btree_page.specs.declared.kind.Family.{Family}
use Rattle.btree_page.specs.declared.kind.Family.TheVariants.{Table, Index}
use Rattle.db_format.specs.declared.header.Header.{Header}
use Rattle.db_format.specs.Value.{Datum}
use Rattle.db_format.specs.Text.{spaced}
use Rattle.text_lines.specs.Text.{line}

-- what a schema row says of its tree, if it has one
abbrev pub kind_text : Option Family → List ℕ
kind_text None = codes " none"
kind_text (Some Table) = codes " table"
kind_text (Some Index) = codes " index"

-- a schema row by its rowid and its columns but the root page: type, name, tbl_name, what its tree is, sql
abbrev pub schema_line : ℤ → List Datum → Option Family → List ℕ
schema_line rowid values family =
    line (codes "schema " ++ signed_decimal rowid ++ spaced (take 3 values) ++ kind_text family ++ spaced (take 1 (drop 3 values)))

-- schema cookie and format, cache size, text encoding, user version, application id, SQLite version number
abbrev pub database_line : List ℕ → List ℕ
database_line kept =
    line (codes "database cookie " ++ decimal (slice_index kept 0)
    ++ codes " format " ++ decimal (slice_index kept 1)
    ++ codes " cache " ++ decimal (slice_index kept 2)
    ++ codes " encoding " ++ decimal (slice_index kept 3)
    ++ codes " user-version " ++ decimal (slice_index kept 4)
    ++ codes " application-id " ++ decimal (slice_index kept 5)
    ++ codes " sqlite " ++ decimal (slice_index kept 6))

abbrev pub end_line : List ℕ
end_line = line (codes "end")

-- those fields of a header
abbrev pub kept_of : Header → List ℕ
kept_of header =
    header.cookie ∷ header.format ∷ header.cache ∷ header.encoding ∷ header.user_version ∷ header.application_id ∷ header.sqlite_number ∷ []
