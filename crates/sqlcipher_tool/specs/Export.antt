-- What `export` answers: the whole is checked, and then all rows are printed. A walk may answer any defect of the earliest part that
-- has one. Pages that are not in use are not looked at.
use Rattle.std.specs.Prelude.{List}
use Rattle.btree_model.specs.Content.{content}
use Rattle.btree_model.specs.Plain.{with_zeros}
use Rattle.db_format.specs.Pages.{Pages}
use Rattle.export_rows.specs.Report.{export_report}
use Rattle.sqlcipher_tool.specs.Answer.{Answer, done}
use Rattle.sqlcipher_tool.specs.Verify.{parts_answers}

-- a defect or a refused page of the earliest part that has one, or the text of the content
abbrev pub content_answers : Pages → List Answer
content_answers pages = parts_answers pages (done (export_report (content (with_zeros pages))))
