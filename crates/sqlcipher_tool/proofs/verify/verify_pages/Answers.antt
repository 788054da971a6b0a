use Rattle.std.proofs.Common.{sym, ap, ◌∙◌, subst}
use Rattle.db_format.specs.Pages.{Pages}
use Rattle.migrate_job.proofs.WalkStops.{given_stop}
use Rattle.edge_model.specs.Files.{main_of}
use Rattle.pager.specs.Pages.{opened_pages}
use Rattle.pager.specs.Reads.{disk_then_read}
use Rattle.schema_map.specs.Census.{IsWhole}
use Rattle.rekey_job.proofs.Stopped.{pages_same}
use Rattle.sqlcipher_tool.specs.Promises.{AnswersOne}
use Rattle.sqlcipher_tool.specs.Stop.{stop_answer}
use Rattle.sqlcipher_tool.specs.Verify.{pages_answers}
use Rattle.sqlcipher_tool.proofs.SomeDue.{pages_some}
use Rattle.sqlcipher_tool.proofs.Verified.{free_stop, stop_one}
use Rattle.sqlcipher_tool.proofs.verify.verify_pages.Goals as goal

pub walk_stop-requires : goal.walk_stop-requires
walk_stop-requires g c = given_stop g.D.Disk.tells _ _ _ c.in-Err.error (λ s t read. read.4) c.in-Err.ensures.given

pub report_stop-requires-clause-is_stop : goal.report_stop-requires-clause-is_stop
report_stop-requires-clause-is_stop g c = given_stop g.D.Disk.tells _ _ _ c.in-Err-finish.error (λ s t read. read.4) c.in-Err-finish.ensures.given

pub report_census-requires : goal.report_census-requires
report_census-requires g c = λ told.
    let mid = c.start.new.source in
    let now = c.finish.new.source in
    let reads = c.finish.ensures.reads in
    let same = pages_same mid.codec now.codec (g.D.Disk.reads mid.disk.now) (g.D.Disk.reads now.disk.now) mid.count now.count
    reads.2 (reads.0.only_read told).stays reads.4 in
    subst (λ (p : Pages). IsWhole p c.in-Ok-finish.census) (sym same) (c.in-Ok-finish.ensures.found told)

pub returns-in-Ok-finish-clause-answer : goal.returns-in-Ok-finish-clause-answer
returns-in-Ok-finish-clause-answer g c = λ told.
    let start = c.args.pager.now in
    let mid = c.start.new.source in
    let now = c.finish.new.source in
    let first = c.start.ensures.reads in
    let next = c.finish.ensures.reads in
    let reads = g.D.Disk.reads in
    let same = pages_same mid.codec now.codec (reads mid.disk.now) (reads now.disk.now) mid.count now.count next.2 (next.0.only_read told).stays next.4
    ∙ pages_same start.codec mid.codec (reads start.disk.now) (reads mid.disk.now) start.count mid.count first.2 (first.0.only_read told).stays first.4 in
    subst (λ (p : Pages). AnswersOne (pages_answers p) c.report_census.result g.S.Sink.tells (g.S.Sink.taken c.args.out.now) (g.S.Sink.taken c.report_census.new.out))
    same (c.report_census.ensures.answer told)

pub returns-in-Ok-finish-clause-disk : goal.returns-in-Ok-finish-clause-disk
returns-in-Ok-finish-clause-disk g c = disk_then_read (disk_then_read c.start.ensures.reads.0 c.finish.ensures.reads.0) c.report_census.ensures.disk

pub returns-in-Err-finish-clause-answer : goal.returns-in-Err-finish-clause-answer
returns-in-Err-finish-clause-answer g c = λ told.
    let start = c.args.pager.now in
    let mid = c.start.new.source in
    let now = c.finish.new.source in
    let first = c.start.ensures.reads in
    let next = c.finish.ensures.reads in
    let reads = g.D.Disk.reads in
    let same = pages_same mid.codec now.codec (reads mid.disk.now) (reads now.disk.now) mid.count now.count next.2 (next.0.only_read told).stays next.4
    ∙ pages_same start.codec mid.codec (reads start.disk.now) (reads mid.disk.now) start.count mid.count first.2 (first.0.only_read told).stays first.4 in
    subst (λ (p : Pages). AnswersOne (pages_answers p) c.report_stop.result g.S.Sink.tells (g.S.Sink.taken c.args.out.now) (g.S.Sink.taken c.report_stop.new.out))
    same (c.report_stop.ensures.answer told)

pub returns-in-Err-finish-clause-disk : goal.returns-in-Err-finish-clause-disk
returns-in-Err-finish-clause-disk g c = disk_then_read (disk_then_read c.start.ensures.reads.0 c.finish.ensures.reads.0) c.report_stop.ensures.disk

pub returns-in-Err-clause-answer : goal.returns-in-Err-clause-answer
returns-in-Err-clause-answer g c = λ told.
    let start = c.args.pager.now in
    let pages = opened_pages start.codec (main_of (g.D.Disk.reads start.disk.now)) start.count in
    stop_one (pages_answers pages) c.walk_stop.result c.conclude_stop.result g.S.Sink.tells (g.S.Sink.taken c.args.out.now) (g.S.Sink.taken c.conclude_stop.new.out)
    (pages_some pages)
    (λ answer is. free_stop g.D.Disk.tells pages c.in-Err.error told (c.in-Err.ensures.found told) answer (ap stop_answer (sym c.walk_stop.ensures) ∙ is))
    c.conclude_stop.ensures.status c.conclude_stop.ensures.text
    (λ is. let failed = c.conclude_stop.ensures.disk is in (failed.0, ap g.S.Sink.taken failed.1))
    (λ is. let starved = c.conclude_stop.ensures.memory is in (starved.0, ap g.S.Sink.taken starved.1))
