use Rattle.std.proofs.Common.{◌≡◌, ◌++◌, ℕ, List, [], rules, sym, ap, subst, ◌∙◌}
use Rattle.std.specs.Prelude.{IsTrue, sum_by}
use Rattle.std.proofs.lemmas.Result.{on_ok_weaker, on_err_weaker, IfOk-weaker}
use Rattle.db_format.specs.Header.{header_fields}
use Rattle.db_format.specs.Pages.{Pages}
use Rattle.db_format.specs.declared.header.Header.{Header}
use Rattle.btree_model.specs.Content.{content}
use Rattle.schema_map.specs.declared.schema.SchemaRow.{SchemaRow}
use Rattle.export_rows.specs.Lines.{database_line, end_line, kept_of}
use Rattle.export_rows.specs.Report.{entry_count, export_report}
use Rattle.export_rows.specs.Schema.{IsSchemaOf, row_count, schema_rows_text}
use Rattle.schema_map.specs.Alone.{schema_rows}
use Rattle.export_rows.proofs.Handing.{earliest, if_given_later}
use Rattle.row_text.proofs.Moving.{restated_part}
use Rattle.export_rows.proofs.SchemaText.{count_of_content, schema_of, text_of_content}
use Rattle.export_rows.proofs.TreeText.{none_put}
use Rattle.export_rows.proofs.content.export.Goals as goal

-- the lines that are put are the report on the content
report_is : (pages : Pages) (header : Header) (rows : List SchemaRow) → header ≡ header_fields (pages.page 1) → IsSchemaOf pages rows
    → database_line (kept_of header) ++ schema_rows_text pages rows ++ end_line ≡ export_report (content pages)
report_is pages header rows fields schema =
    ap (λ (h : Header). database_line (kept_of h) ++ schema_rows_text pages rows ++ end_line) fields
    ∙ ap (λ (l : List ℕ). database_line (content pages).kept ++ l ++ end_line)
    (ap (schema_rows_text pages) schema.are ∙ text_of_content pages (schema_rows pages))

count_is : (pages : Pages) (rows : List SchemaRow) → IsSchemaOf pages rows → sum_by (row_count pages) rows ≡ entry_count (content pages)
count_is pages rows schema = ap (sum_by (row_count pages)) schema.are ∙ count_of_content pages (schema_rows pages)

pub returns-in-Err-clause-part : goal.returns-in-Err-clause-part
returns-in-Err-clause-part g c told t = none_put (export_report (content (g.S.PageSource.plain c.args.source.now))) (g.K.Sink.taken c.args.out.now) []

pub returns-in-Err-new-clause-part : goal.returns-in-Err-new-clause-part
returns-in-Err-new-clause-part g c told t = none_put (export_report (content (g.S.PageSource.plain c.args.source.now))) (g.K.Sink.taken c.args.out.now) []

pub put_content-requires-clause-schema : goal.put_content-requires-clause-schema
put_content-requires-clause-schema g c told =
    let pages : Pages = g.S.PageSource.plain c.args.source.now in
    let same : g.S.PageSource.plain c.census.new.source ≡ pages = g.met.S.PageSource.same_pages c.args.source.now c.census.new.source c.in-Ok.ensures.reads told in
    let schema : IsSchemaOf pages c.rows.result.now = schema_of pages c.in-Ok.census.schema c.rows.result.now c.in-Ok.census.entries (c.in-Ok.ensures.found told).sound (c.in-Ok.ensures.found told).schema
    (c.in-Ok.ensures.found told).rows (search rules) c.rows.ensures in
    subst (λ p. IsSchemaOf p c.rows.result.now) (sym same) schema

pub returns-clause-text : goal.returns-clause-text
returns-clause-text g c = on_ok_weaker c.put_content.result (λ done told t.
    let pages : Pages = g.S.PageSource.plain c.args.source.now in
    let same : g.S.PageSource.plain c.census.new.source ≡ pages = g.met.S.PageSource.same_pages c.args.source.now c.census.new.source c.in-Ok.ensures.reads told in
    let schema : IsSchemaOf pages c.rows.result.now = schema_of pages c.in-Ok.census.schema c.rows.result.now c.in-Ok.census.entries (c.in-Ok.ensures.found told).sound (c.in-Ok.ensures.found told).schema
    (c.in-Ok.ensures.found told).rows (search rules) c.rows.ensures in
    done told t ∙ ap (λ (p : Pages). g.K.Sink.taken c.args.out.now ++ (database_line (kept_of c.args.header.now) ++ schema_rows_text p c.rows.result.now ++ end_line)) same
    ∙ ap (λ (l : List ℕ). g.K.Sink.taken c.args.out.now ++ l) (report_is pages c.args.header.now c.rows.result.now (c.requires.header told) schema)) c.put_content.ensures.text

pub returns-clause-part : goal.returns-clause-part
returns-clause-part g c = on_err_weaker c.put_content.result (λ part told t.
    let pages : Pages = g.S.PageSource.plain c.args.source.now in
    let same : g.S.PageSource.plain c.census.new.source ≡ pages = g.met.S.PageSource.same_pages c.args.source.now c.census.new.source c.in-Ok.ensures.reads told in
    let schema : IsSchemaOf pages c.rows.result.now = schema_of pages c.in-Ok.census.schema c.rows.result.now c.in-Ok.census.entries (c.in-Ok.ensures.found told).sound (c.in-Ok.ensures.found told).schema
    (c.in-Ok.ensures.found told).rows (search rules) c.rows.ensures in
    restated_part (ap (λ (p : Pages). database_line (kept_of c.args.header.now) ++ schema_rows_text p c.rows.result.now ++ end_line) same
    ∙ report_is pages c.args.header.now c.rows.result.now (c.requires.header told) schema) (part told t)) c.put_content.ensures.part

pub returns-clause-count : goal.returns-clause-count
returns-clause-count g c =
    IfOk-weaker c.put_content.result (λ rows. IsTrue g.S.PageSource.tells → rows ≡ sum_by (row_count (g.S.PageSource.plain c.census.new.source)) c.rows.result.now)
    (λ rows. IsTrue g.S.PageSource.tells → rows ≡ entry_count (content (g.S.PageSource.plain c.args.source.now))) (λ rows counted told.
    let pages : Pages = g.S.PageSource.plain c.args.source.now in
    let same : g.S.PageSource.plain c.census.new.source ≡ pages = g.met.S.PageSource.same_pages c.args.source.now c.census.new.source c.in-Ok.ensures.reads told in
    let schema : IsSchemaOf pages c.rows.result.now = schema_of pages c.in-Ok.census.schema c.rows.result.now c.in-Ok.census.entries (c.in-Ok.ensures.found told).sound (c.in-Ok.ensures.found told).schema
    (c.in-Ok.ensures.found told).rows (search rules) c.rows.ensures in
    counted told ∙ ap (λ (p : Pages). sum_by (row_count p) c.rows.result.now) same ∙ count_is pages c.rows.result.now schema) c.put_content.ensures.count

pub returns-clause-causes : goal.returns-clause-causes
returns-clause-causes g c =
    earliest g.S.PageSource.refuses (g.S.PageSource.plain c.args.source.now) (g.S.PageSource.plain c.census.new.source) (IsTrue g.S.PageSource.tells) c.put_content.result
    (g.met.S.PageSource.same_pages c.args.source.now c.census.new.source c.in-Ok.ensures.reads) c.put_content.ensures.causes

pub returns-clause-given : goal.returns-clause-given
returns-clause-given g c =
    if_given_later g.S.PageSource.only_read g.S.PageSource.plain g.S.PageSource.refuses c.args.source.now c.census.new.source c.put_content.result g.met.S.PageSource.transitive
    (g.met.S.PageSource.same_count c.args.source.now c.census.new.source c.in-Ok.ensures.reads) c.in-Ok.ensures.reads c.put_content.ensures.given
