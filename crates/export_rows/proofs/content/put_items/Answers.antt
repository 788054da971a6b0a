use Rattle.std.proofs.Common.{◌≡◌, ◌+◌, ℕ, List, true, arith, rules, ap, sym, subst, ◌∙◌}
use Rattle.std.specs.Prelude.{ℤ, IsTrue, is_some}
use Rattle.std.specs.Int.{w64}
use Rattle.std.proofs.lemmas.Int.{to_z-of_z}
use mir.Val.{SFits}
use Rattle.db_format.specs.Pages.{Pages}
use Rattle.db_format.specs.Record.{columns}
use Rattle.schema_map.specs.Root.{number_of}
use Rattle.export_rows.specs.Report.{item_at, item_count, item_text}
use Rattle.export_rows.specs.Schema.{row_count}
use Rattle.btree_walk.proofs.CauseLemmas.{rose_later}
use Rattle.export_rows.specs.Causes.{is_export_defect}
use Rattle.export_rows.proofs.Handing.{fault_checked, given_checked, late_checked, none_checked, output_checked, walk_fault_later, walk_given_later}
use Rattle.row_text.proofs.Moving.{restated, restated_part}
use Rattle.export_rows.proofs.SchemaText.{IsKeptRow, count_fits, kept_at, walk_late, written_count, written_failed, written_on, written_stopped}
use Rattle.export_rows.proofs.content.put_items.Goals as goal

pub returns-then-payload-gt-LONGEST_PAYLOAD-clause-part : goal.returns-then-payload-gt-LONGEST_PAYLOAD-clause-part
returns-then-payload-gt-LONGEST_PAYLOAD-clause-part g c told =
    let pages : Pages = g.S.PageSource.plain c.args.source.now in
    written_stopped pages c.args.rows.now c.loop-row.row-index c.loop-row.count g.K.Sink.tells (g.K.Sink.taken c.args.out.now) c.args.line.now (g.K.Sink.taken c.loop-row.out) c.loop-row.line (c.loop-row.invariant.on told)

pub put_item-requires-clause-record : goal.put_item-requires-clause-record
put_item-requires-clause-record g c told =
    let kept : IsKeptRow (g.S.PageSource.plain c.args.source.now) c.row-item.result = kept_at (g.S.PageSource.plain c.args.source.now) c.args.rows.now c.loop-row.row-index c.row-item.result (c.requires.schema told) c.loop-row-test.true c.row-item.is in
    subst (λ (l : List ℕ). is_some (columns l) ≡ true) (sym c.as_slice-payload.ensures) kept.recorded

pub put_item-requires-clause-root : goal.put_item-requires-clause-root
put_item-requires-clause-root g c told =
    let kept : IsKeptRow (g.S.PageSource.plain c.args.source.now) c.row-item.result = kept_at (g.S.PageSource.plain c.args.source.now) c.args.rows.now c.loop-row.row-index c.row-item.result (c.requires.schema told) c.loop-row-test.true c.row-item.is in
    kept.number ∙ ap (λ (l : List ℕ). number_of (columns l)) (sym c.as_slice-payload.ensures)

pub returns-in-Err-clause-part : goal.returns-in-Err-clause-part
returns-in-Err-clause-part g c told =
    let pages : Pages = g.S.PageSource.plain c.args.source.now in
    let same : g.S.PageSource.plain c.loop-row.source ≡ pages = g.met.S.PageSource.same_pages c.args.source.now c.loop-row.source c.loop-row.invariant.read told in
    let row = c.row-item.result in
    let fits : SFits w64 c.row-item.result.rowid = search rules in
    let named = ap (λ (z : ℤ). item_at (g.S.PageSource.plain c.loop-row.source) z c.as_slice-payload.result.now) (to_z-of_z w64 c.row-item.result.rowid fits)
    ∙ ap (λ (l : List ℕ). item_at (g.S.PageSource.plain c.loop-row.source) row.rowid l) c.as_slice-payload.ensures
    ∙ ap (λ (p : Pages). item_at p row.rowid row.payload) same in
    written_failed pages c.args.rows.now c.loop-row.row-index c.loop-row.count g.K.Sink.tells (g.K.Sink.taken c.args.out.now) c.args.line.now (g.K.Sink.taken c.loop-row.out) c.loop-row.line (c.loop-row.invariant.on told) row c.loop-row-test.true c.row-item.is
    (g.K.Sink.taken c.put_item.new.out) (λ t. restated_part (ap item_text named) (c.in-Err.ensures.part told t))

pub returns-in-Err-clause-no_defect : goal.returns-in-Err-clause-no_defect
returns-in-Err-clause-no_defect g c = ap is_export_defect c.after_check.ensures ∙ none_checked c.in-Err.error

pub returns-in-Err-clause-causes : goal.returns-in-Err-clause-causes
returns-in-Err-clause-causes g c =
    late_checked g.S.PageSource.refuses (g.S.PageSource.plain c.args.source.now) (IsTrue g.S.PageSource.tells) c.in-Err.error c.after_check.result c.after_check.ensures
    (walk_late g.S.PageSource.refuses (g.S.PageSource.plain c.args.source.now) (g.S.PageSource.plain c.loop-row.source) (IsTrue g.S.PageSource.tells) c.row-item.result c.in-Err.error
    (g.met.S.PageSource.same_pages c.args.source.now c.loop-row.source c.loop-row.invariant.read) (λ told. (c.requires.schema told).sound)
    (λ told. kept_at (g.S.PageSource.plain c.args.source.now) c.args.rows.now c.loop-row.row-index c.row-item.result (c.requires.schema told) c.loop-row-test.true c.row-item.is) c.in-Err.ensures.causes)

pub returns-in-Err-clause-given : goal.returns-in-Err-clause-given
returns-in-Err-clause-given g c =
    given_checked g.S.PageSource.only_read g.S.PageSource.plain g.S.PageSource.refuses c.args.source.now c.in-Err.error c.after_check.result c.after_check.ensures
    (walk_given_later g.S.PageSource.only_read g.S.PageSource.plain g.S.PageSource.refuses c.args.source.now c.loop-row.source c.in-Err.error g.met.S.PageSource.transitive
    (g.met.S.PageSource.same_count c.args.source.now c.loop-row.source c.loop-row.invariant.read) c.loop-row.invariant.read c.in-Err.ensures.given)

pub returns-in-Err-clause-fault : goal.returns-in-Err-clause-fault
returns-in-Err-clause-fault g c =
    fault_checked g.S.PageSource.is_fault (g.S.PageSource.faults c.args.source.now) (g.S.PageSource.faults c.put_item.new.source) c.in-Err.error c.after_check.result c.after_check.ensures
    (walk_fault_later g.S.PageSource.is_fault (g.S.PageSource.faults c.args.source.now) (g.S.PageSource.faults c.loop-row.source) (g.S.PageSource.faults c.put_item.new.source) c.in-Err.error
    (g.met.S.PageSource.later c.args.source.now c.loop-row.source c.loop-row.invariant.read) c.in-Err.ensures.fault)

pub returns-in-Err-clause-output : goal.returns-in-Err-clause-output
returns-in-Err-clause-output g c is =
    rose_later (g.K.Sink.faults c.args.out.now) (g.K.Sink.faults c.loop-row.out) (g.K.Sink.faults c.put_item.new.out) c.loop-row.invariant.later
    (c.in-Err.ensures.output (output_checked c.in-Err.error c.after_check.result c.after_check.ensures is))

pub returns-in-Err-clause-reads : goal.returns-in-Err-clause-reads
returns-in-Err-clause-reads g c =
    g.met.S.PageSource.transitive c.args.source.now c.loop-row.source c.put_item.new.source c.loop-row.invariant.read c.in-Err.ensures.reads

pub loop-row-preserved : goal.loop-row-preserved
loop-row-preserved g c =
    record {
      read = g.met.S.PageSource.transitive c.args.source.now c.loop-row.source c.put_item.new.source c.loop-row.invariant.read c.in-Ok.ensures.reads;
      unpinned = c.in-Ok.ensures.unpinned;
      later = search rules;
      on = λ told.
          let pages : Pages = g.S.PageSource.plain c.args.source.now in
          let same : g.S.PageSource.plain c.loop-row.source ≡ pages = g.met.S.PageSource.same_pages c.args.source.now c.loop-row.source c.loop-row.invariant.read told in
          let row = c.row-item.result in
          let fits : SFits w64 c.row-item.result.rowid = search rules in
          let named = ap (λ (z : ℤ). item_at (g.S.PageSource.plain c.loop-row.source) z c.as_slice-payload.result.now) (to_z-of_z w64 c.row-item.result.rowid fits)
          ∙ ap (λ (l : List ℕ). item_at (g.S.PageSource.plain c.loop-row.source) row.rowid l) c.as_slice-payload.ensures
          ∙ ap (λ (p : Pages). item_at p row.rowid row.payload) same in
          let more : c.in-Ok.more ≡ row_count pages row = c.in-Ok.ensures.count told ∙ ap item_count named in
          let total = count_fits pages c.args.rows.now c.loop-row.row-index c.loop-row.count g.K.Sink.tells (g.K.Sink.taken c.args.out.now) c.args.line.now (g.K.Sink.taken c.loop-row.out) c.loop-row.line (c.loop-row.invariant.on told) row c.loop-row-test.true c.row-item.is (c.requires.schema told) in
          let next : c.saturating_add-count.result ≡ c.loop-row.count + row_count pages row = omega (arith, c.saturating_add-count.ensures) in
          written_on pages c.args.rows.now c.loop-row.row-index c.loop-row.count g.K.Sink.tells (g.K.Sink.taken c.args.out.now) c.args.line.now (g.K.Sink.taken c.loop-row.out) c.loop-row.line (c.loop-row.invariant.on told) row c.loop-row-test.true c.row-item.is
          c.saturating_add-count.result next (g.K.Sink.taken c.put_item.new.out) c.put_item.new.line (λ t. restated (ap item_text named) (c.in-Ok.ensures.text told t));
    }

pub returns-clause-count : goal.returns-clause-count
returns-clause-count g c told =
    let pages : Pages = g.S.PageSource.plain c.args.source.now in
    written_count pages c.args.rows.now c.loop-row.row-index c.loop-row.count g.K.Sink.tells (g.K.Sink.taken c.args.out.now) c.args.line.now (g.K.Sink.taken c.loop-row.out) c.loop-row.line (c.loop-row.invariant.on told) c.loop-row-test.false
