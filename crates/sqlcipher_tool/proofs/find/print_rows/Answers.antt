use Rattle.std.proofs.Common.{List, Err, ap, subst}
use Rattle.btree_model.specs.Finding.{Finding}
use Rattle.migrate_job.proofs.WalkStops.{given_stop}
use Rattle.pager.specs.Causes.{MayRefuse}
use Rattle.edge_model.specs.Files.{main_of}
use Rattle.pager.specs.Pages.{opened_pages}
use Rattle.pager.specs.declared.fill.PageError.{PageError}
use Rattle.rowid_find.specs.Reach.{reach_all}
use Rattle.rowid_find.specs.Search.{IsAllFound, AreRowsFound}
use Rattle.rowid_find.specs.declared.error.FindError.{FindError}
use Rattle.sqlcipher_tool.proofs.FindAnswers.{cut_one, found_one, line_one, of_walk, passed, stopped_one}
use Rattle.sqlcipher_tool.proofs.find.print_rows.Goals as goal

pub walk_stop-requires : goal.walk_stop-requires
walk_stop-requires g c =
    given_stop g.D.Disk.tells _ _ _ c.in-Err-Walk.error (λ s t read. read.4) (of_walk _ c.in-Err-Walk.field-0 c.in-Err-Walk.error c.in-Err-Walk.field-0-is c.in-Err-Walk.ensures.given)

pub returns-in-Ok-clause-answer : goal.returns-in-Ok-clause-answer
returns-in-Ok-clause-answer g c = λ told.
    let start = c.args.pager.now in
    let pages = opened_pages start.codec (main_of (g.D.Disk.reads start.disk.now)) start.count in
    let before = g.S.Sink.taken c.args.out.now in
    let after = g.S.Sink.taken c.find_from.new.out in
    let found = c.in-Ok.ensures.on told in
    let same = passed (λ a b. reach_all pages a b c.args.root) c.args.low c.args.high c.ranges.low c.ranges.high in
    found_one g.S.Sink.tells (reach_all pages c.args.low c.args.high c.args.root) before after 0 found.0 c.in-Ok.field-0
    (subst (λ (l : List Finding). IsAllFound g.S.Sink.tells l before after 0 found.0 c.in-Ok.field-0) same found.1)

pub returns-in-Err-Walk-clause-answer : goal.returns-in-Err-Walk-clause-answer
returns-in-Err-Walk-clause-answer g c = λ told.
    let start = c.args.pager.now in
    let pages = opened_pages start.codec (main_of (g.D.Disk.reads start.disk.now)) start.count in
    let before = g.S.Sink.taken c.args.out.now in
    let mid = g.S.Sink.taken c.find_from.new.out in
    let found = c.in-Err-Walk.ensures.on told in
    let all = reach_all pages c.args.low c.args.high c.args.root in
    let same = passed (λ a b. reach_all pages a b c.args.root) c.args.low c.args.high c.ranges.low c.ranges.high in
    let two = subst (λ (l : List Finding). AreRowsFound (MayRefuse g.D.Disk.tells) pages g.S.Sink.tells l before mid 0 found.0 (Err c.in-Err-Walk.field-0)) same found.1 in
    stopped_one g.D.Disk.tells pages all c.in-Err-Walk.error c.walk_stop.result c.conclude_stop.result g.S.Sink.tells before mid (g.S.Sink.taken c.conclude_stop.new.out) 0 found.0 told
    c.walk_stop.ensures
    (subst (λ (e : FindError PageError). AreRowsFound (MayRefuse g.D.Disk.tells) pages g.S.Sink.tells all before mid 0 found.0 (Err e)) c.in-Err-Walk.field-0-is two)
    c.conclude_stop.ensures.status c.conclude_stop.ensures.text
    (λ is. let failed = c.conclude_stop.ensures.disk is in (failed.0, ap g.S.Sink.taken failed.1))
    (λ is. let starved = c.conclude_stop.ensures.memory is in (starved.0, ap g.S.Sink.taken starved.1))

pub returns-in-Err-Walk-clause-line : goal.returns-in-Err-Walk-clause-line
returns-in-Err-Walk-clause-line g c = λ printed none.
    line_one c.in-Err-Walk.error c.walk_stop.result c.conclude_stop.result (g.S.Sink.taken c.args.out.now) (g.S.Sink.taken c.conclude_stop.new.out) c.walk_stop.ensures none
    c.conclude_stop.ensures.status (λ is. (c.conclude_stop.ensures.disk is).0) (λ is. (c.conclude_stop.ensures.memory is).0)

pub returns-in-Err-OutputFault-clause-answer : goal.returns-in-Err-OutputFault-clause-answer
returns-in-Err-OutputFault-clause-answer g c = λ told.
    let start = c.args.pager.now in
    let pages = opened_pages start.codec (main_of (g.D.Disk.reads start.disk.now)) start.count in
    let before = g.S.Sink.taken c.args.out.now in
    let after = g.S.Sink.taken c.find_from.new.out in
    let found = c.in-Err-OutputFault.ensures.on told in
    let all = reach_all pages c.args.low c.args.high c.args.root in
    let same = passed (λ a b. reach_all pages a b c.args.root) c.args.low c.args.high c.ranges.low c.ranges.high in
    let two = subst (λ (l : List Finding). AreRowsFound (MayRefuse g.D.Disk.tells) pages g.S.Sink.tells l before after 0 found.0 (Err c.in-Err-OutputFault.field-0)) same found.1 in
    cut_one g.S.Sink.tells all before after 0 found.0
    (subst (λ (e : FindError PageError). AreRowsFound (MayRefuse g.D.Disk.tells) pages g.S.Sink.tells all before after 0 found.0 (Err e)) c.in-Err-OutputFault.field-0-is two)
