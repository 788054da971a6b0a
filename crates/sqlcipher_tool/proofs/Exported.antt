-- What `export` answers of the pages of a file.
use Rattle.std.proofs.Common.{ap}
use Rattle.btree_model.specs.Content.{Content, content}
use Rattle.btree_model.specs.Plain.{with_zeros}
use Rattle.db_format.specs.Pages.{Pages}
use Rattle.export_rows.specs.Report.{export_report}
use Rattle.export_rows.proofs.Zeros.{zeros_content}
use Rattle.sqlcipher_tool.specs.Answer.{done}
use Rattle.sqlcipher_tool.proofs.PartsPut.{HasText}

-- the text is that of the plain pages
pub export_text : (pages : Pages) → HasText pages (done (export_report (content (with_zeros pages)))) (export_report (content pages))
export_text pages = record {
  text = λ sound. ap (λ (held : Content). export_report held) (zeros_content pages sound);
  begun = λ sound. ap (λ (held : Content). export_report held) (zeros_content pages sound);
}
