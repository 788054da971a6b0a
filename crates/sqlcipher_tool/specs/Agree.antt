-- What `agree` answers: the whole is checked, and then each index is compared with its table, by rowids. A walk may answer any defect of
-- the earliest part that has one. Pages that are not in use are not looked at.
use Rattle.std.specs.Prelude.{◌==◌, Bool, List, if◌then◌else◌}
use Rattle.db_format.specs.Pages.{Pages}
use Rattle.index_report.specs.Report.{index_summary, index_text}
use Rattle.index_report.specs.declared.summary.Summary.{Summary}
use Rattle.sqlcipher_tool.specs.Answer.{Answer}
use Rattle.sqlcipher_tool.specs.Verify.{parts_answers}
use Rattle.sqlcipher_tool.specs.declared.status.Refusal.TheVariants.{IndexesDiffer}
use Rattle.sqlcipher_tool.specs.declared.status.Status.{Status}
use Rattle.sqlcipher_tool.specs.declared.status.Status.TheVariants.{Done, Refused}

-- no index that is checked differs from its table
abbrev pub is_agreeing : Pages → Bool
is_agreeing pages = (index_summary pages).differing == 0

-- how a comparison ends that found this
abbrev pub status_of : Summary → Status
status_of found = if found.differing == 0 then Done else Refused (IndexesDiffer found.differing found.checked)

-- a line for each way in which an index differs, for each index that is not checked, and the last line
abbrev pub agree_answer : Pages → Answer
agree_answer pages = record { status = status_of (index_summary pages); text = index_text pages; begun = index_text pages }

-- a defect or a refused page of the earliest part that has one, or how the indexes agree
abbrev pub agree_answers : Pages → List Answer
agree_answers pages = parts_answers pages (agree_answer pages)
