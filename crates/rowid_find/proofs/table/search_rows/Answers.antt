use Rattle.std.proofs.Common.{◌≡◌, Err, subst}
use mir.Val.{of_z, to_z}
use mir.Syntax.{w64}
use Rattle.db_format.specs.Pages.{Pages}
use Rattle.btree_walk.proofs.CauseLemmas.{given_later}
use Rattle.rowid_find.specs.Table.{IsRowTried}
use Rattle.rowid_find.proofs.TableSteps.{passed_row, stops_at}
use Rattle.rowid_find.proofs.table.search_rows.Goals as goal

pub returns-in-Err-clause-on : goal.returns-in-Err-clause-on
returns-in-Err-clause-on g c = λ told.
    let pages : Pages = g.S.PageSource.plain c.args.source.now in
    let same : g.S.PageSource.plain c.loop-row.source ≡ pages = g.met.S.PageSource.same_pages c.args.source.now c.loop-row.source c.loop-row.invariant.read told in
    let row = c.row-item.result in
    stops_at pages c.args.name.now c.args.rows.now c.loop-row.row-index row c.loop-row-test.true c.row-item.is (c.loop-row.invariant.on told) g.S.PageSource.refuses c.in-Err.error
    (passed_row g.S.PageSource.refuses pages c.args.name.now (to_z w64 (of_z w64 row.rowid)) row c.as_slice.result.now c.in-Err.error c.as_slice.ensures
    (subst (λ (p : Pages). IsRowTried g.S.PageSource.refuses p c.args.name.now (record { rowid = to_z w64 (of_z w64 row.rowid); root = row.root; payload = c.as_slice.result.now }) (Err c.in-Err.error)) same
    (c.in-Err.ensures.on told)))

pub returns-in-Err-clause-given : goal.returns-in-Err-clause-given
returns-in-Err-clause-given g c =
    given_later g.S.PageSource.only_read g.S.PageSource.plain g.S.PageSource.refuses c.args.source.now c.loop-row.source c.in-Err.error g.met.S.PageSource.transitive
    (g.met.S.PageSource.same_count c.args.source.now c.loop-row.source c.loop-row.invariant.read) c.loop-row.invariant.read c.in-Err.ensures.given
