-- What `find` answers. The schema is read, and then the root page of each row of the name, up to that of the table, and the pages that
-- lead to the rows of the range. The answer is exact in a damaged file too: rows are printed as they are met, and behind them why the
-- search ended, be it at a page that is not accepted, at a defect or at a page that was met before.
use Rattle.std.specs.Prelude.{ℕ, ℤ, List, [], ◌∷◌, ◌++◌, Option, Some, None}
use Rattle.db_format.specs.Pages.{Pages, nothing}
use Rattle.db_format.specs.declared.defect.Defect.TheVariants.{BadKind}
use Rattle.btree_model.specs.Finding.{Finding, place, leaf, entry, key, fault, refused as refused_page, entries, faults, refusals}
use Rattle.btree_model.specs.Schema.{schema_part}
use Rattle.rowid_find.specs.Lines.{found_report, found_rows_text}
use Rattle.rowid_find.specs.Reach.{reach_all}
use Rattle.rowid_find.specs.Table.{Table, at_root, no_table, unaccepted, no_kind, schema_rows, table_of}
use Rattle.sqlcipher_tool.specs.Answer.{Answer, done, refused}
use Rattle.sqlcipher_tool.specs.Text.{refusal_line}
use Rattle.sqlcipher_tool.specs.Verify.{else_answers, stop_answers}
use Rattle.sqlcipher_tool.specs.declared.status.Refusal.{Refusal}
use Rattle.sqlcipher_tool.specs.declared.status.Refusal.TheVariants.{PageTag, Defect as RefusedDefect, NoTable}
use Rattle.sqlcipher_tool.specs.declared.status.Status.TheVariants.{Refused}

-- the first defect or refused page
abbrev pub first_stop : List Finding → Option Refusal
first_stop [] = None
first_stop (place n ∷ rest) = first_stop rest
first_stop (leaf n ∷ rest) = first_stop rest
first_stop (entry row ∷ rest) = first_stop rest
first_stop (key k ∷ rest) = first_stop rest
first_stop (fault d ∷ rest) = Some (RefusedDefect d)
first_stop (refused_page n ∷ rest) = Some (PageTag n)

-- what was met before it
abbrev pub before_stop : List Finding → List Finding
before_stop [] = []
before_stop (place n ∷ rest) = place n ∷ before_stop rest
before_stop (leaf n ∷ rest) = leaf n ∷ before_stop rest
before_stop (entry row ∷ rest) = entry row ∷ before_stop rest
before_stop (key k ∷ rest) = key k ∷ before_stop rest
before_stop (fault d ∷ rest) = []
before_stop (refused_page n ∷ rest) = []

-- the rows and their number; or the rows before a stop, and its line
abbrev pub ended_answer : List Finding → Option Refusal → Answer
ended_answer found None = done (found_report (entries found))
ended_answer found (Some refusal) =
    record { status = Refused refusal; text = found_rows_text (entries found) ++ refusal_line refusal; begun = found_rows_text (entries found) }

-- the answer to a search that meets this
abbrev pub met_answer : List Finding → Answer
met_answer all = ended_answer (before_stop all) (first_stop all)

-- the rows of the range, of the table with this root
abbrev pub rows_answer : Pages → ℕ → ℤ → ℤ → Answer
rows_answer pages root low high = met_answer (reach_all pages low high root)

-- what the schema says of the name
abbrev pub table_answer : Pages → ℤ → ℤ → Table → Answer
table_answer pages low high (at_root root) = rows_answer pages root low high
table_answer pages low high no_table = refused NoTable
table_answer pages low high (unaccepted root) = refused (PageTag root)
table_answer pages low high (no_kind root) = refused (RefusedDefect (BadKind root))

-- a defect or a refused page of the schema, or the answer of the table
abbrev pub find_answers : Pages → List ℕ → ℤ → ℤ → List Answer
find_answers pages name low high =
    let schema = schema_part pages nothing in
    else_answers (stop_answers (faults schema) (refusals schema)) (table_answer pages low high (table_of pages name (schema_rows pages)) ∷ [])
