use Rattle.std.proofs.Common.{◌∙◌, ℕ, ap}
use Rattle.db_format.specs.declared.header.Header.{Header as Fields}
use Rattle.sqlcipher_tool.specs.Text.{header_report}
use Rattle.sqlcipher_tool.proofs.header.describe_opened.Goals as goal

pub returns-clause-told : goal.returns-clause-told
returns-clause-told g c =
    let same = c.into_pager-pager.ensures.file in
    c.header_report-report.ensures
    ∙ ap (λ (h : Fields). header_report h c.pages.result) (c.header.ensures ∙ same.1)
    ∙ ap (λ (n : ℕ). header_report c.args.file.header n) (c.pages.ensures ∙ same.2)
