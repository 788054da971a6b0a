-- What is printed for an answer.
use Rattle.std.specs.Prelude.{ℕ, List, [], ◌++◌, codes, decimal}
use Rattle.pager.specs.declared.opening.OpenError.{OpenError}
use Rattle.pager.specs.declared.opening.OpenError.TheVariants.{Empty, Short, KeyRefused, HeaderFault, WalMode, AutoVacuum, Ragged, TooLarge, DiskFault as DiskFails, OutOfMemory as MemoryEnds}
use Rattle.session_hall.specs.declared.step.Answer.{Answer}
use Rattle.session_hall.specs.declared.step.Answer.TheVariants.{Done, Page, Busy, Refused, TagRefused, Misuse, Down, DiskFault, EntropyFault, OutOfMemory}
use Rattle.text_lines.specs.Text.{line}

-- the line of a file that does not open; the last two are no refusal of a file, and have none
abbrev pub open_line : OpenError → List ℕ
open_line Empty = line (codes "file is empty")
open_line (Short len) = line (codes "file is short: " ++ (decimal len ++ codes " bytes"))
open_line KeyRefused = line (codes "key refused")
open_line (HeaderFault offset found) = line (codes "header fault at " ++ (decimal offset ++ (codes ": " ++ decimal found)))
open_line WalMode = line (codes "WAL mode")
open_line AutoVacuum = line (codes "auto-vacuum")
open_line (Ragged len) = line (codes "file is ragged: " ++ (decimal len ++ codes " bytes"))
open_line (TooLarge pages) = line (codes "file is too large: " ++ (decimal pages ++ codes " pages"))
open_line DiskFails = []
open_line MemoryEnds = []

-- the line of a page whose tag does not hold
abbrev pub tag_refused_line : ℕ → List ℕ
tag_refused_line page = line (codes "page " ++ (decimal page ++ codes ": tag refused"))

-- the line of an answer, where `byte` is what is printed of a page that was read; a step that failed has none
abbrev pub answer_line : ℕ → Answer → List ℕ
answer_line byte Done = line (codes "done")
answer_line byte Page = line (codes "byte " ++ decimal byte)
answer_line byte Busy = line (codes "busy")
answer_line byte (Refused error) = open_line error
answer_line byte (TagRefused page) = tag_refused_line page
answer_line byte Misuse = line (codes "misuse")
answer_line byte Down = []
answer_line byte DiskFault = []
answer_line byte EntropyFault = []
answer_line byte OutOfMemory = []
