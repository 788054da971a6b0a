-- The lines of indexes. Each ends with a line feed, and numbers are decimal. A name is the text of a value, as the schema has it.
use Rattle.std.specs.Prelude.{ℕ, ℤ, ◌==◌, List, [], ◌++◌, codes, decimal, Option, Some, None, if◌then◌else◌}
use Rattle.std.specs.Fmt.{signed_decimal}
use Rattle.db_format.specs.Text.{value_text}
use Rattle.db_format.specs.Value.{Datum}
use Rattle.index_check.specs.Checked.{surplus}
use Rattle.index_check.specs.declared.agreement.Agreement.{Agreement}
use Rattle.index_check.specs.declared.rowids.Rowids.{Rowids}
use Rattle.index_report.specs.declared.summary.Summary.{Summary}
use Rattle.index_report.specs.declared.verdict.Unchecked.{Unchecked as Why}
use Rattle.index_report.specs.declared.verdict.Unchecked.TheVariants.{NoTree, NoTable, NoRowids, NotRead}
use Rattle.index_report.specs.declared.verdict.Verdict.{Verdict}
use Rattle.index_report.specs.declared.verdict.Verdict.TheVariants.{Unchecked, Checked}
use Rattle.text_lines.specs.Text.{line}

-- what a line of this index begins with
abbrev pub head : Datum → List ℕ
head name = codes "index " ++ value_text name ++ codes ": "

abbrev pub why_text : Why → List ℕ
why_text NoTree = codes "no tree of an index"
why_text NoTable = codes "no table"
why_text NoRowids = codes "table without rowids"
why_text NotRead = codes "partial or not read"

abbrev pub least_text : Option ℤ → List ℕ
least_text None = []
least_text (Some rowid) = codes ", least rowid " ++ signed_decimal rowid

-- some rowids, and none where there are none
abbrev pub rowids_line : Datum → List ℕ → Rowids → List ℕ
rowids_line name what found = if found.count == 0 then [] else line (head name ++ decimal found.count ++ what ++ least_text found.least)

-- so many, and none where there are none
abbrev pub count_line : Datum → List ℕ → ℕ → List ℕ
count_line name what count = if count == 0 then [] else line (head name ++ decimal count ++ what)

abbrev pub agreement_text : Datum → Agreement → List ℕ
agreement_text name found =
    rowids_line name (codes " rows missing") found.missing
    ++ rowids_line name (codes " entries of no row") found.strangers
    ++ count_line name (codes " entries without a rowid") found.nameless
    ++ count_line name (codes " entries beyond one a row") (surplus found)

abbrev pub verdict_text : Datum → Verdict → List ℕ
verdict_text name (Unchecked why) = line (head name ++ codes "not checked: " ++ why_text why)
verdict_text name (Checked found) = agreement_text name found

-- the last line
abbrev pub last_line : Summary → List ℕ
last_line found =
    if found.differing == 0
    then line (codes "ok: " ++ decimal found.checked ++ codes " indexes, " ++ decimal found.entries ++ codes " entries, " ++ decimal found.unchecked ++ codes " not checked")
    else line (codes "indexes differ: " ++ decimal found.differing ++ codes " of " ++ decimal found.checked)
