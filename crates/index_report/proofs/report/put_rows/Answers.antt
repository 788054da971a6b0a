use Rattle.std.proofs.Common.{◌≡◌, ◌≤◌, ◌<◌, ◌-◌, ◌^◌, ℕ, rules, sym, ap, subst, ◌∙◌}
use Rattle.std.specs.List.{All}
use Rattle.std.specs.Prelude.{IsTrue, option_to_list}
use Rattle.db_format.specs.Pages.{Pages}
use Rattle.btree_walk.proofs.CauseLemmas.{rose_later}
use Rattle.row_text.proofs.Moving.{restated, restated_part}
use Rattle.schema_map.specs.declared.schema.SchemaRow.{SchemaRow}
use Rattle.export_rows.specs.Causes.{is_export_defect}
use Rattle.export_rows.proofs.Handing.{fault_checked, given_checked, late_checked, none_checked, walk_fault_later, walk_given_later}
use Rattle.export_rows.proofs.SchemaText.{kept_at}
use Rattle.index_report.proofs.RowSteps.{lent_text, lent_verdicts, output_stays, reported_all, reported_failed, reported_found, reported_none, reported_on, verdicts_fit, walk_row_late}
use Rattle.index_report.proofs.report.put_rows.Goals as goal

pub loop-row-init : goal.loop-row-init
loop-row-init g c =
    record {
      read = g.met.S.PageSource.reflexive c.args.source.now;
      unpinned = c.requires.unpinned;
      later = search rules;
      on = λ told. reported_none (g.S.PageSource.plain c.args.source.now) c.args.rows.now c.none-found.result g.K.Sink.tells (g.K.Sink.taken c.args.out.now) c.args.line.now c.none-found.ensures;
    }

pub put_row-requires-clause-high : goal.put_row-requires-clause-high
put_row-requires-clause-high g c =
    subst (λ (n : ℕ). All (λ (row : SchemaRow). row.root ≤ n) c.args.rows.now) (sym (g.met.S.PageSource.same_count c.args.source.now c.loop-row.source c.loop-row.invariant.read)) c.requires.high

pub returns-in-Err-clause-part : goal.returns-in-Err-clause-part
returns-in-Err-clause-part g c told =
    let pages : Pages = g.S.PageSource.plain c.args.source.now in
    let same : g.S.PageSource.plain c.loop-row.source ≡ pages = g.met.S.PageSource.same_pages c.args.source.now c.loop-row.source c.loop-row.invariant.read told in
    let row = c.row-item.result in
    let text = lent_text pages (g.S.PageSource.plain c.loop-row.source) c.args.rows.now row c.as_slice.result.now same c.as_slice.ensures in
    reported_failed pages c.args.rows.now c.loop-row.row-index c.loop-row.found g.K.Sink.tells (g.K.Sink.taken c.args.out.now) c.args.line.now (g.K.Sink.taken c.loop-row.out) c.loop-row.line (c.loop-row.invariant.on told) row c.loop-row-test.true c.row-item.is
    (g.K.Sink.taken c.put_row.new.out) (λ t. restated_part text (c.in-Err.ensures.part told t))

pub returns-in-Err-clause-no_defect : goal.returns-in-Err-clause-no_defect
returns-in-Err-clause-no_defect g c = ap is_export_defect c.after_check.ensures ∙ none_checked c.in-Err.error

pub returns-in-Err-clause-causes : goal.returns-in-Err-clause-causes
returns-in-Err-clause-causes g c =
    late_checked g.S.PageSource.refuses (g.S.PageSource.plain c.args.source.now) (IsTrue g.S.PageSource.tells) c.in-Err.error c.after_check.result c.after_check.ensures
    (walk_row_late g.S.PageSource.refuses (g.S.PageSource.plain c.args.source.now) (g.S.PageSource.plain c.loop-row.source) (IsTrue g.S.PageSource.tells) c.args.rows.now c.row-item.result c.in-Err.error
    (g.met.S.PageSource.same_pages c.args.source.now c.loop-row.source c.loop-row.invariant.read) (λ told. c.requires.schema told)
    (λ told. kept_at (g.S.PageSource.plain c.args.source.now) c.args.rows.now c.loop-row.row-index c.row-item.result (c.requires.schema told) c.loop-row-test.true c.row-item.is) c.in-Err.ensures.causes)

pub returns-in-Err-clause-given : goal.returns-in-Err-clause-given
returns-in-Err-clause-given g c =
    given_checked g.S.PageSource.only_read g.S.PageSource.plain g.S.PageSource.refuses c.args.source.now c.in-Err.error c.after_check.result c.after_check.ensures
    (walk_given_later g.S.PageSource.only_read g.S.PageSource.plain g.S.PageSource.refuses c.args.source.now c.loop-row.source c.in-Err.error g.met.S.PageSource.transitive
    (g.met.S.PageSource.same_count c.args.source.now c.loop-row.source c.loop-row.invariant.read) c.loop-row.invariant.read c.in-Err.ensures.given)

pub returns-in-Err-clause-fault : goal.returns-in-Err-clause-fault
returns-in-Err-clause-fault g c =
    fault_checked g.S.PageSource.is_fault (g.S.PageSource.faults c.args.source.now) (g.S.PageSource.faults c.put_row.new.source) c.in-Err.error c.after_check.result c.after_check.ensures
    (walk_fault_later g.S.PageSource.is_fault (g.S.PageSource.faults c.args.source.now) (g.S.PageSource.faults c.loop-row.source) (g.S.PageSource.faults c.put_row.new.source) c.in-Err.error
    (g.met.S.PageSource.later c.args.source.now c.loop-row.source c.loop-row.invariant.read) c.in-Err.ensures.fault)

pub returns-in-Err-clause-output : goal.returns-in-Err-clause-output
returns-in-Err-clause-output g c is =
    rose_later (g.K.Sink.faults c.args.out.now) (g.K.Sink.faults c.loop-row.out) (g.K.Sink.faults c.put_row.new.out) c.loop-row.invariant.later
    (c.in-Err.ensures.output (output_stays c.in-Err.error c.after_check.result c.after_check.ensures is))

pub returns-in-Err-clause-reads : goal.returns-in-Err-clause-reads
returns-in-Err-clause-reads g c =
    g.met.S.PageSource.transitive c.args.source.now c.loop-row.source c.put_row.new.source c.loop-row.invariant.read c.in-Err.ensures.reads

pub loop-row-preserved : goal.loop-row-preserved
loop-row-preserved g c =
    record {
      read = g.met.S.PageSource.transitive c.args.source.now c.loop-row.source c.put_row.new.source c.loop-row.invariant.read c.in-Ok.ensures.reads;
      unpinned = c.in-Ok.ensures.unpinned;
      later = search rules;
      on = λ told.
          let pages : Pages = g.S.PageSource.plain c.args.source.now in
          let same : g.S.PageSource.plain c.loop-row.source ≡ pages = g.met.S.PageSource.same_pages c.args.source.now c.loop-row.source c.loop-row.invariant.read told in
          let row = c.row-item.result in
          let text = lent_text pages (g.S.PageSource.plain c.loop-row.source) c.args.rows.now row c.as_slice.result.now same c.as_slice.ensures in
          let more = c.in-Ok.ensures.found told ∙ lent_verdicts pages (g.S.PageSource.plain c.loop-row.source) c.args.rows.now row c.as_slice.result.now same c.as_slice.ensures in
          let few : c.loop-row.row-index < 2 ^ 64 - 1 = search rules in
          reported_on pages c.args.rows.now c.loop-row.row-index c.loop-row.found g.K.Sink.tells (g.K.Sink.taken c.args.out.now) c.args.line.now (g.K.Sink.taken c.loop-row.out) c.loop-row.line (c.loop-row.invariant.on told) row c.loop-row-test.true c.row-item.is
          c.after-found.result (option_to_list c.in-Ok.one) more
          (c.after-found.ensures _ (verdicts_fit pages c.args.rows.now c.loop-row.row-index few) (c.loop-row.invariant.on told).found_is)
          (g.K.Sink.taken c.put_row.new.out) c.put_row.new.line (λ t. restated text (c.in-Ok.ensures.text told t));
    }

pub returns-clause-text : goal.returns-clause-text
returns-clause-text g c told =
    let pages : Pages = g.S.PageSource.plain c.args.source.now in
    reported_all pages c.args.rows.now c.loop-row.row-index c.loop-row.found g.K.Sink.tells (g.K.Sink.taken c.args.out.now) c.args.line.now (g.K.Sink.taken c.loop-row.out) c.loop-row.line (c.loop-row.invariant.on told) c.loop-row-test.false

pub returns-clause-found : goal.returns-clause-found
returns-clause-found g c told =
    let pages : Pages = g.S.PageSource.plain c.args.source.now in
    reported_found pages c.args.rows.now c.loop-row.row-index c.loop-row.found g.K.Sink.tells (g.K.Sink.taken c.args.out.now) c.args.line.now (g.K.Sink.taken c.loop-row.out) c.loop-row.line (c.loop-row.invariant.on told) c.loop-row-test.false
