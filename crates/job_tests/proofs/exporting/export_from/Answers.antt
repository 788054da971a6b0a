use Rattle.std.proofs.Common.{sym, ap, ◌∙◌}
use Rattle.db_format.specs.Header.{header_fields}
use Rattle.db_format.specs.Pages.{Pages}
use Rattle.job_tests.proofs.exporting.export_from.Goals as goal

pub export-requires-clause-header : goal.export-requires-clause-header
export-requires-clause-header g c told =
    c.in-Ok-read_header.ensures.fields
    ∙ ap header_fields (c.loaded.ensures ∙ c.in-Ok.ensures.told told
    ∙ ap (λ (p : Pages). p.page 1) (sym (g.met.S.PageSource.same_pages c.args.source.now c.load.new.self c.in-Ok.ensures.reads told)))
