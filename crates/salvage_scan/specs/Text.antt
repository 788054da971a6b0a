-- The text of salvaged rows: a line each, and one of their counts.
use Rattle.std.specs.Prelude.{ℕ, List, ◌++◌, codes, decimal}
use Rattle.std.specs.Fmt.{signed_decimal}
use Rattle.std.specs.List.{flat_map}
use Rattle.db_format.specs.Text.{spaced}
use Rattle.salvage_scan.specs.declared.scan.Salvaged.{Salvaged}
use Rattle.salvage_scan.specs.Salvage.{LineCounts, Line, counts_of}
use Rattle.salvage_scan.specs.Salvage.Line.{tag_refused, row, lost, bad_cell}
use Rattle.text_lines.specs.Text.{line}

abbrev pub line_text : Line → List ℕ
line_text (tag_refused n) = line (codes "page " ++ decimal n ++ codes ": tag refused")
line_text (row n rowid values) = line (codes "row " ++ decimal n ++ codes " " ++ signed_decimal rowid ++ spaced values)
line_text (lost n rowid) = line (codes "lost " ++ decimal n ++ codes " " ++ signed_decimal rowid)
line_text (bad_cell n index) = line (codes "page " ++ decimal n ++ codes ": bad cell " ++ decimal index)

abbrev pub counts_line : LineCounts → List ℕ
counts_line counts =
    line (codes "salvaged: " ++ decimal counts.rows ++ codes " rows, " ++ decimal counts.lost_rows ++ codes " lost, "
    ++ decimal counts.refused_pages ++ codes " refused pages")

abbrev pub lines_text : List Line → List ℕ
lines_text lines = flat_map line_text lines

abbrev pub salvage_report : List Line → List ℕ
salvage_report lines = lines_text lines ++ counts_line (counts_of lines)

-- counts in code
abbrev pub counts_shown : Salvaged → LineCounts
counts_shown salvaged = record { rows = salvaged.rows; lost_rows = salvaged.lost; refused_pages = salvaged.refused }
