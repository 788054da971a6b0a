-- What `agree` answers of the pages of a file.
use Rattle.std.proofs.Common.{refl}
use Rattle.db_format.specs.Pages.{Pages}
use Rattle.index_report.specs.Report.{index_text}
use Rattle.sqlcipher_tool.specs.Agree.{agree_answer}
use Rattle.sqlcipher_tool.proofs.PartsPut.{HasText}

pub agree_text : (pages : Pages) → HasText pages (agree_answer pages) (index_text pages)
agree_text pages = record { text = λ sound. refl; begun = λ sound. refl }
