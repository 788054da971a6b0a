use Rattle.std.proofs.Common.{◌≡◌, ⊎_elim, inl, inr, true, ap, ◌∙◌}
use Rattle.btree_model.specs.Parts.{is_database}
use Rattle.export_rows.specs.Causes.{is_export_defect}
use Rattle.migrate_job.proofs.WalkStops.{given_stop}
use Rattle.edge_model.specs.Files.{main_of}
use Rattle.pager.specs.Pages.{opened_pages}
use Rattle.index_report.specs.Report.{index_summary, index_text}
use Rattle.sqlcipher_tool.specs.Agree.{agree_answer, status_of}
use Rattle.index_report.specs.declared.summary.Summary.{Summary}
use Rattle.index_report.proofs.LineSteps.{first_if, second_if}
use Rattle.sqlcipher_tool.specs.declared.status.Refusal.TheVariants.{IndexesDiffer}
use Rattle.sqlcipher_tool.specs.declared.status.Status.{Status}
use Rattle.sqlcipher_tool.specs.declared.status.Status.TheVariants.{Done, Refused}
use Rattle.sqlcipher_tool.proofs.Agreed.{agree_text}
use Rattle.sqlcipher_tool.proofs.PartsPut.{causes_of, ended_one, failed_one, line_one, of_walk, stopped_one}
use Rattle.sqlcipher_tool.proofs.agree.agree_pages.Goals as goal

pub walk_stop-requires : goal.walk_stop-requires
walk_stop-requires g c =
    given_stop g.D.Disk.tells _ _ _ c.in-Err-Walk.error (λ s t read. read.4) (of_walk _ c.in-Err-Walk.field-0 c.in-Err-Walk.error c.in-Err-Walk.field-0-is c.in-Err-Walk.ensures.given)

pub returns-then-found-eq0-clause-answer : goal.returns-then-found-eq0-clause-answer
returns-then-found-eq0-clause-answer g c = λ told.
    let start = c.args.pager.now in
    let pages = opened_pages start.codec (main_of (g.D.Disk.reads start.disk.now)) start.count in
    let found = c.in-Ok.found in
    let is : Done ≡ status_of (index_summary pages) =
    first_if found.differing Done (Refused (IndexesDiffer found.differing found.checked)) c.if-found-eq0.true ∙ ap (λ (f : Summary). status_of f) (c.in-Ok.ensures.found told) in
    ended_one pages (agree_answer pages) (index_text pages) (agree_text pages) Done g.S.Sink.tells (g.S.Sink.taken c.args.out.now) (g.S.Sink.taken c.report_indexes.new.out)
    (c.in-Ok.ensures.sound told) is (λ printed. c.in-Ok.ensures.text told printed)

pub returns-clause-answer : goal.returns-clause-answer
returns-clause-answer g c = λ told.
    let start = c.args.pager.now in
    let pages = opened_pages start.codec (main_of (g.D.Disk.reads start.disk.now)) start.count in
    let found = c.in-Ok.found in
    let refused : Status = Refused (IndexesDiffer found.differing found.checked) in
    let is : refused ≡ status_of (index_summary pages) =
    second_if found.differing Done refused c.if-found-eq0.false ∙ ap (λ (f : Summary). status_of f) (c.in-Ok.ensures.found told) in
    ended_one pages (agree_answer pages) (index_text pages) (agree_text pages) refused g.S.Sink.tells (g.S.Sink.taken c.args.out.now) (g.S.Sink.taken c.report_indexes.new.out)
    (c.in-Ok.ensures.sound told) is (λ printed. c.in-Ok.ensures.text told printed)

pub returns-in-Err-Walk-clause-answer : goal.returns-in-Err-Walk-clause-answer
returns-in-Err-Walk-clause-answer g c = λ told.
    let start = c.args.pager.now in
    let pages = opened_pages start.codec (main_of (g.D.Disk.reads start.disk.now)) start.count in
    let before = g.S.Sink.taken c.args.out.now in
    let mid = g.S.Sink.taken c.report_indexes.new.out in
    stopped_one pages (agree_answer pages) (index_text pages) (agree_text pages) g.D.Disk.tells c.in-Err-Walk.error c.walk_stop.result c.conclude_stop.result g.S.Sink.tells before mid (g.S.Sink.taken c.conclude_stop.new.out) told
    c.walk_stop.ensures
    (causes_of g.D.Disk.tells pages c.in-Err-Walk.field-0 c.in-Err-Walk.error c.in-Err-Walk.field-0-is told c.in-Err-Walk.ensures.causes)
    (λ is. ap g.S.Sink.taken (c.in-Err-Walk.ensures.defect (ap is_export_defect c.in-Err-Walk.field-0-is ∙ is)))
    (⊎_elim (λ same. inl (ap g.S.Sink.taken same)) (λ (sound : is_database pages ≡ true). inr sound) (c.in-Err-Walk.ensures.checked told))
    (λ printed. c.in-Err-Walk.ensures.part told printed)
    c.conclude_stop.ensures.status c.conclude_stop.ensures.text
    (λ is. let failed = c.conclude_stop.ensures.disk is in (failed.0, ap g.S.Sink.taken failed.1))
    (λ is. let starved = c.conclude_stop.ensures.memory is in (starved.0, ap g.S.Sink.taken starved.1))

pub returns-in-Err-Walk-clause-line : goal.returns-in-Err-Walk-clause-line
returns-in-Err-Walk-clause-line g c = λ printed.
    line_one c.in-Err-Walk.error c.walk_stop.result c.conclude_stop.result (g.S.Sink.taken c.args.out.now) (g.S.Sink.taken c.report_indexes.new.out) (g.S.Sink.taken c.conclude_stop.new.out)
    c.walk_stop.ensures
    (λ is. ap g.S.Sink.taken (c.in-Err-Walk.ensures.defect (ap is_export_defect c.in-Err-Walk.field-0-is ∙ is)))
    c.conclude_stop.ensures.status
    (λ is. (c.conclude_stop.ensures.disk is).0) (λ is. (c.conclude_stop.ensures.memory is).0)
    (c.conclude_stop.ensures.line printed)

pub returns-in-Err-OutputFault-clause-answer : goal.returns-in-Err-OutputFault-clause-answer
returns-in-Err-OutputFault-clause-answer g c = λ told.
    let start = c.args.pager.now in
    let pages = opened_pages start.codec (main_of (g.D.Disk.reads start.disk.now)) start.count in
    failed_one pages (agree_answer pages) (index_text pages) (agree_text pages) _ g.S.Sink.tells (g.S.Sink.taken c.args.out.now) (g.S.Sink.taken c.report_indexes.new.out) tt
    (λ printed. c.in-Err-OutputFault.ensures.part told printed)
    (⊎_elim (λ same. inl (ap g.S.Sink.taken same)) (λ (sound : is_database pages ≡ true). inr sound) (c.in-Err-OutputFault.ensures.checked told))
