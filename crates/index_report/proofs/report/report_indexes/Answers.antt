use Rattle.std.proofs.Common.{◌≡◌, ◌++◌, List, [], rules, sym, ap, subst, ◌∙◌}
use Rattle.std.specs.Prelude.{IsTrue}
use Rattle.std.proofs.lemmas.Result.{on_ok_weaker, on_err_weaker, IfOk-weaker}
use Rattle.db_format.specs.Pages.{Pages}
use Rattle.row_text.proofs.Moving.{restated_part}
use Rattle.schema_map.specs.declared.schema.SchemaRow.{SchemaRow}
use Rattle.export_rows.specs.Schema.{IsSchemaOf}
use Rattle.export_rows.proofs.Handing.{earliest, if_given_later}
use Rattle.export_rows.proofs.SchemaText.{schema_of}
use Rattle.export_rows.proofs.TreeText.{none_put}
use Rattle.index_report.specs.Report.{found_of, index_summary, index_text, lines_of}
use Rattle.index_report.proofs.RowSteps.{if_fault_later}
use Rattle.index_report.proofs.report.report_indexes.Goals as goal

pub returns-in-Err-clause-part : goal.returns-in-Err-clause-part
returns-in-Err-clause-part g c told t = none_put (index_text (g.S.PageSource.plain c.args.source.now)) (g.K.Sink.taken c.args.out.now) []

pub returns-in-Err-new-clause-part : goal.returns-in-Err-new-clause-part
returns-in-Err-new-clause-part g c told t = none_put (index_text (g.S.PageSource.plain c.args.source.now)) (g.K.Sink.taken c.args.out.now) []

pub put_report-requires-clause-schema : goal.put_report-requires-clause-schema
put_report-requires-clause-schema g c told =
    let pages : Pages = g.S.PageSource.plain c.args.source.now in
    let same : g.S.PageSource.plain c.census.new.source ≡ pages = g.met.S.PageSource.same_pages c.args.source.now c.census.new.source c.in-Ok.ensures.reads told in
    let schema : IsSchemaOf pages c.rows.result.now = schema_of pages c.in-Ok.census.schema c.rows.result.now c.in-Ok.census.entries (c.in-Ok.ensures.found told).sound (c.in-Ok.ensures.found told).schema
    (c.in-Ok.ensures.found told).rows (search rules) c.rows.ensures in
    subst (λ p. IsSchemaOf p c.rows.result.now) (sym same) schema

pub returns-clause-text : goal.returns-clause-text
returns-clause-text g c = on_ok_weaker c.put_report.result (λ done told t.
    let pages : Pages = g.S.PageSource.plain c.args.source.now in
    let same : g.S.PageSource.plain c.census.new.source ≡ pages = g.met.S.PageSource.same_pages c.args.source.now c.census.new.source c.in-Ok.ensures.reads told in
    let schema : IsSchemaOf pages c.rows.result.now = schema_of pages c.in-Ok.census.schema c.rows.result.now c.in-Ok.census.entries (c.in-Ok.ensures.found told).sound (c.in-Ok.ensures.found told).schema
    (c.in-Ok.ensures.found told).rows (search rules) c.rows.ensures in
    done told t ∙ ap (λ (p : Pages). g.K.Sink.taken c.args.out.now ++ lines_of p c.rows.result.now) same
    ∙ ap (λ (rows : List SchemaRow). g.K.Sink.taken c.args.out.now ++ lines_of pages rows) schema.are) c.put_report.ensures.text

pub returns-clause-part : goal.returns-clause-part
returns-clause-part g c = on_err_weaker c.put_report.result (λ part told t.
    let pages : Pages = g.S.PageSource.plain c.args.source.now in
    let same : g.S.PageSource.plain c.census.new.source ≡ pages = g.met.S.PageSource.same_pages c.args.source.now c.census.new.source c.in-Ok.ensures.reads told in
    let schema : IsSchemaOf pages c.rows.result.now = schema_of pages c.in-Ok.census.schema c.rows.result.now c.in-Ok.census.entries (c.in-Ok.ensures.found told).sound (c.in-Ok.ensures.found told).schema
    (c.in-Ok.ensures.found told).rows (search rules) c.rows.ensures in
    restated_part (ap (λ (p : Pages). lines_of p c.rows.result.now) same ∙ ap (λ (rows : List SchemaRow). lines_of pages rows) schema.are) (part told t)) c.put_report.ensures.part

pub returns-clause-found : goal.returns-clause-found
returns-clause-found g c =
    IfOk-weaker c.put_report.result (λ found. IsTrue g.S.PageSource.tells → found ≡ found_of (g.S.PageSource.plain c.census.new.source) c.rows.result.now)
    (λ found. IsTrue g.S.PageSource.tells → found ≡ index_summary (g.S.PageSource.plain c.args.source.now)) (λ found is told.
    let pages : Pages = g.S.PageSource.plain c.args.source.now in
    let same : g.S.PageSource.plain c.census.new.source ≡ pages = g.met.S.PageSource.same_pages c.args.source.now c.census.new.source c.in-Ok.ensures.reads told in
    let schema : IsSchemaOf pages c.rows.result.now = schema_of pages c.in-Ok.census.schema c.rows.result.now c.in-Ok.census.entries (c.in-Ok.ensures.found told).sound (c.in-Ok.ensures.found told).schema
    (c.in-Ok.ensures.found told).rows (search rules) c.rows.ensures in
    is told ∙ ap (λ (p : Pages). found_of p c.rows.result.now) same ∙ ap (λ (rows : List SchemaRow). found_of pages rows) schema.are) c.put_report.ensures.found

pub returns-clause-causes : goal.returns-clause-causes
returns-clause-causes g c =
    earliest g.S.PageSource.refuses (g.S.PageSource.plain c.args.source.now) (g.S.PageSource.plain c.census.new.source) (IsTrue g.S.PageSource.tells) c.put_report.result
    (g.met.S.PageSource.same_pages c.args.source.now c.census.new.source c.in-Ok.ensures.reads) c.put_report.ensures.causes

pub returns-clause-given : goal.returns-clause-given
returns-clause-given g c =
    if_given_later g.S.PageSource.only_read g.S.PageSource.plain g.S.PageSource.refuses c.args.source.now c.census.new.source c.put_report.result g.met.S.PageSource.transitive
    (g.met.S.PageSource.same_count c.args.source.now c.census.new.source c.in-Ok.ensures.reads) c.in-Ok.ensures.reads c.put_report.ensures.given

pub returns-clause-fault : goal.returns-clause-fault
returns-clause-fault g c =
    if_fault_later g.S.PageSource.is_fault (g.S.PageSource.faults c.args.source.now) (g.S.PageSource.faults c.census.new.source) (g.S.PageSource.faults c.put_report.new.source) c.put_report.result
    (g.met.S.PageSource.later c.args.source.now c.census.new.source c.in-Ok.ensures.reads) c.put_report.ensures.fault
