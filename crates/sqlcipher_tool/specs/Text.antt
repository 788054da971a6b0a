-- What is printed. Each line ends with a line feed, and numbers are decimal.
use Rattle.std.specs.Prelude.{ℕ, List, ◌++◌, codes, decimal}
use Rattle.std.specs.Fmt.{signed_decimal}
use Rattle.std.specs.List.{flat_map}
use Rattle.btree_model.specs.Parts.{Counts}
use Rattle.cipher_profile.specs.declared.profile.Profile.{Profile}
use Rattle.db_format.specs.declared.defect.Defect.{Defect}
use Rattle.db_format.specs.declared.defect.Defect.TheVariants.{TrunkFault, FreeCount, BadKind, BadCell, ChildOutOfRange, PageTwice, TooDeep, ChainShort, ChainLong, RowidOrder, RecordFault, SchemaRow, RootFault}
use Rattle.db_format.specs.declared.header.Header.{Header}
use Rattle.rollback_journal.specs.declared.recovery.Recovery.{Recovery}
use Rattle.rollback_journal.specs.declared.recovery.Recovery.TheVariants.{Nothing, Cold, Played}
use Rattle.profile_word.specs.Wording.{word_of}
use Rattle.text_lines.specs.Text.{line, field_line}
use Rattle.sqlcipher_tool.specs.declared.status.Refusal.{Refusal}
use Rattle.sqlcipher_tool.specs.declared.status.Refusal.TheVariants.{NoTags, LayoutDiffers, OnlyRead, LogVersion, LogPageSize, LogShort, LogTooLarge, LogOfOther, KeyMissing, KeyEmpty, KeyTooLong, KeyForm, KeyUnsalted, KeyNotHex, FileThere, JournalThere, Empty, Short, HeaderFault, WalMode, AutoVacuum, Ragged, TooLarge, PageTag, JournalPageSize, SuperJournal, Defect as RefusedDefect, TooManyPages, NoTable, IndexesDiffer, ScriptLine, LineTooLong, TooManyLines}

-- what is said of a page
abbrev pub of_page : ℕ → List ℕ → List ℕ
of_page page text = codes "page " ++ (decimal page ++ (codes ": " ++ text))

-- the text of a defect, without its line feed
abbrev pub defect_text : Defect → List ℕ
defect_text (TrunkFault page) = of_page page (codes "trunk fault")
defect_text (FreeCount kept found) = codes "free count " ++ (decimal kept ++ (codes ", found " ++ decimal found))
defect_text (BadKind page) = of_page page (codes "bad kind")
defect_text (BadCell page index) = of_page page (codes "bad cell " ++ decimal index)
defect_text (ChildOutOfRange page) = of_page page (codes "child out of range")
defect_text (PageTwice page) = of_page page (codes "page twice")
defect_text (TooDeep page) = of_page page (codes "too deep")
defect_text (ChainShort page) = of_page page (codes "chain short")
defect_text (ChainLong page) = of_page page (codes "chain long")
defect_text (RowidOrder page) = of_page page (codes "rowid order")
defect_text (RecordFault page) = of_page page (codes "record fault")
defect_text (SchemaRow rowid) = codes "schema row " ++ signed_decimal rowid
defect_text (RootFault rowid) = codes "root fault in row " ++ signed_decimal rowid

-- the text of a refusal, without its line feed
abbrev pub refusal_text : Refusal → List ℕ
refusal_text NoTags = codes "profile has no tags"
refusal_text LayoutDiffers = codes "layout differs"
refusal_text OnlyRead = codes "a file with its log is only read"
refusal_text KeyMissing = codes "key missing"
refusal_text KeyEmpty = codes "key empty"
refusal_text KeyTooLong = codes "key too long"
refusal_text KeyForm = codes "key with salt"
refusal_text KeyUnsalted = codes "key without salt"
refusal_text KeyNotHex = codes "key is not hex"
refusal_text FileThere = codes "file is there"
refusal_text JournalThere = codes "journal is there"
refusal_text Empty = codes "file is empty"
refusal_text (Short len) = codes "file is short: " ++ decimal len ++ codes " bytes"
refusal_text (HeaderFault offset found) = codes "header fault at " ++ decimal offset ++ codes ": " ++ decimal found
refusal_text WalMode = codes "WAL mode"
refusal_text AutoVacuum = codes "auto-vacuum"
refusal_text (Ragged len) = codes "file is ragged: " ++ decimal len ++ codes " bytes"
refusal_text (TooLarge pages) = codes "file is too large: " ++ decimal pages ++ codes " pages"
refusal_text (PageTag page) = codes "page " ++ decimal page ++ codes ": tag refused"
refusal_text (JournalPageSize found) = codes "journal page size " ++ decimal found
refusal_text (LogVersion found) = codes "log version " ++ decimal found
refusal_text (LogPageSize found) = codes "log page size " ++ decimal found
refusal_text (LogShort pages) = codes "log is short: " ++ decimal pages ++ codes " pages"
refusal_text LogTooLarge = codes "log is too large"
refusal_text LogOfOther = codes "log is another file's"
refusal_text SuperJournal = codes "journal names a super-journal"
refusal_text (RefusedDefect defect) = defect_text defect
refusal_text (TooManyPages limit) = codes "too many pages: limit " ++ decimal limit
refusal_text NoTable = codes "no such table"
refusal_text (IndexesDiffer differing checked) = codes "indexes differ: " ++ decimal differing ++ codes " of " ++ decimal checked
refusal_text (ScriptLine number) = codes "line " ++ decimal number ++ codes ": no step"
refusal_text (LineTooLong number) = codes "line " ++ decimal number ++ codes ": too long"
refusal_text TooManyLines = codes "more than 100000 lines"

abbrev pub refusal_line : Refusal → List ℕ
refusal_line refusal = line (refusal_text refusal)

-- the line of a page whose tag does not hold
abbrev pub tag_line : ℕ → List ℕ
tag_line page = refusal_line (PageTag page)

-- a line for each of these pages
abbrev pub tag_lines : List ℕ → List ℕ
tag_lines pages = flat_map tag_line pages

abbrev pub usage_line : List ℕ
usage_line = line (codes "usage")

abbrev pub key_refused_line : List ℕ
key_refused_line = line (codes "key refused")

-- what `tags` prints of a file whose pages are all accepted
abbrev pub tags_report : ℕ → List ℕ
tags_report pages = line (codes "tags hold: " ++ decimal pages ++ codes " pages")

-- what `verify` prints of a file without a defect
abbrev pub verify_report : Counts → List ℕ
verify_report found =
    line (codes "ok: " ++ (decimal found.trees ++ (codes " trees, " ++ (decimal found.rows ++ (codes " entries, " ++ (decimal found.free ++ (codes " free pages, " ++ (decimal found.unused ++ codes " unused pages"))))))))

-- what `probe` prints
abbrev pub probe_report : Profile → List ℕ
probe_report profile = line (codes "profile " ++ word_of profile)

-- what `header` prints
abbrev pub header_report : Header → ℕ → List ℕ
header_report header pages =
    field_line (codes "page size") header.page_size
    ++ field_line (codes "reserve") header.reserve
    ++ field_line (codes "pages") pages
    ++ field_line (codes "change counter") header.change
    ++ field_line (codes "freelist trunk") header.first_trunk
    ++ field_line (codes "freelist pages") header.free_count
    ++ field_line (codes "schema cookie") header.cookie
    ++ field_line (codes "schema format") header.format
    ++ field_line (codes "cache size") header.cache
    ++ field_line (codes "encoding") header.encoding
    ++ field_line (codes "user version") header.user_version
    ++ field_line (codes "application id") header.application_id
    ++ field_line (codes "sqlite version") header.sqlite_number

-- what `recover` prints
abbrev pub recovery_line : Recovery → List ℕ
recovery_line Nothing = line (codes "nothing")
recovery_line Cold = line (codes "cold")
recovery_line (Played records) = line (codes "played: " ++ decimal records)

-- what `stamp` prints
abbrev pub stamped_report : List ℕ
stamped_report = line (codes "stamped")

-- what `settle` prints: how many frames of the log were laid, and how many pointer-map pages became free
abbrev pub settled_report : ℕ → ℕ → List ℕ
settled_report frames maps = line (codes "settled: " ++ (decimal frames ++ (codes " log frames, " ++ (decimal maps ++ codes " map pages"))))

-- what `rekey` prints
abbrev pub rekeyed_report : ℕ → List ℕ
rekeyed_report pages = line (codes "rekeyed: " ++ decimal pages ++ codes " pages")

-- what `migrate` prints
abbrev pub migrated_report : ℕ → List ℕ
migrated_report pages = line (codes "migrated: " ++ decimal pages ++ codes " pages")

-- what `make` prints: so many rows, and how many bytes their data have
abbrev pub made_report : ℕ → ℕ → List ℕ
made_report rows bytes = line (codes "made: " ++ (decimal rows ++ (codes " rows, " ++ (decimal bytes ++ codes " data bytes"))))
