use Rattle.std.proofs.Common.{◌≡◌, ◌++◌, List, ℕ, None, Some, Ok, sym, ap, ◌∙◌, subst}
use Rattle.std.specs.Prelude.{slice_get}
use Rattle.std.specs.List.{Contains}
use Rattle.db_format.specs.Seen.{marked}
use Rattle.migrate_job.proofs.WalkStops.{given_stop}
use Rattle.edge_model.specs.Files.{main_of}
use Rattle.pager.specs.Pages.{opened_pages}
use Rattle.pager.specs.Reads.{disk_then_read}
use Rattle.btree_model.specs.Parts.{counts}
use Rattle.rekey_job.proofs.Stopped.{pages_same}
use Rattle.text_lines.specs.Text.{PutsPart}
use Rattle.sqlcipher_tool.specs.Answer.{Answer, Puts, done, refused}
use Rattle.sqlcipher_tool.specs.Plain.{refused_but}
use Rattle.sqlcipher_tool.specs.Stop.{stop_answer}
use Rattle.sqlcipher_tool.specs.Text.{tag_lines, refusal_line, verify_report}
use Rattle.sqlcipher_tool.specs.Verify.{pages_answers, rest_answers}
use Rattle.sqlcipher_tool.proofs.SomeDue.{pages_some, rest_some}
use Rattle.sqlcipher_tool.proofs.Answered.{printed_among}
use Rattle.sqlcipher_tool.proofs.Verified.{free_stop, hold_next, left_is, outside_stop, refused_one, rest_stop, stop_one, stopped_one, tags_due}
use Rattle.sqlcipher_tool.proofs.verify.report_stop.Goals as goal

pub walk_stop-requires : goal.walk_stop-requires
walk_stop-requires g c = given_stop g.D.Disk.tells _ _ _ c.in-Err-start.error (λ s t read. read.4) c.in-Err-start.ensures.given

pub returns-in-Err-clause-answer : goal.returns-in-Err-clause-answer
returns-in-Err-clause-answer g c = λ told.
    let start = c.args.pager.now in
    let pages = opened_pages start.codec (main_of (g.D.Disk.reads start.disk.now)) start.count in
    stop_one (pages_answers pages) c.in-Err.stop c.conclude_stop.result g.S.Sink.tells (g.S.Sink.taken c.args.out.now) (g.S.Sink.taken c.conclude_stop.new.out)
    (pages_some pages)
    (λ answer is. let none : None ≡ Some answer = sym (outside_stop c.args.error.now c.in-Err.stop (sym c.in-Err.ensures)) ∙ is in cc)
    c.conclude_stop.ensures.status c.conclude_stop.ensures.text
    (λ is. let failed = c.conclude_stop.ensures.disk is in (failed.0, ap g.S.Sink.taken failed.1))
    (λ is. let starved = c.conclude_stop.ensures.memory is in (starved.0, ap g.S.Sink.taken starved.1))

pub returns-in-Ok-None-clause-answer : goal.returns-in-Ok-None-clause-answer
returns-in-Ok-None-clause-answer g c = λ told.
    let start = c.args.pager.now in
    let now = c.start.new.source in
    let reads = c.start.ensures.reads in
    let pages = opened_pages start.codec (main_of (g.D.Disk.reads start.disk.now)) start.count in
    let later = opened_pages now.codec (main_of (g.D.Disk.reads now.disk.now)) now.count in
    let same : later ≡ pages = pages_same start.codec now.codec (g.D.Disk.reads start.disk.now) (g.D.Disk.reads now.disk.now) start.count now.count
    reads.2 (reads.0.only_read told).stays reads.4 in
    let free = c.in-Ok-start.started.free in
    let begun = c.in-Ok-start.ensures.found told in
    let status = c.conclude_refusal.result in
    let before = g.S.Sink.taken c.args.out.now in
    let after = g.S.Sink.taken c.conclude_refusal.new.out in
    let first : None ≡ slice_get (refused_but pages (marked free.leaves)) 0 =
    sym c.in-Ok-None.field-0-is ∙ c.in-Ok-None.ensures.first told
    ∙ ap (λ (l : List ℕ). slice_get l 0) (left_is pages later free c.leaves.result.now same c.leaves.ensures) in
    let hold = hold_next (pages_answers pages) (rest_answers pages) (refused_but pages (marked free.leaves)) (tags_due pages free.leaves begun.sound begun.leafs) first in
    let due = rest_stop g.D.Disk.tells pages (done (verify_report (counts pages))) c.args.error.now c.in-Ok.refusal told (c.requires.stopped told) (sym c.in-Ok.ensures) in
    printed_among (pages_answers pages) (refused c.in-Ok.refusal) status g.S.Sink.tells before after
    (subst (λ (l : List Answer). Contains l (refused c.in-Ok.refusal)) (sym hold) due) tt c.conclude_refusal.ensures.status
    (λ printed. subst (λ (first : List ℕ). Puts status (refusal_line c.in-Ok.refusal) first after)
    (c.in-Ok-None.ensures.unprinted (ap Ok c.in-Ok-None.field-0-is) printed) (c.conclude_refusal.ensures.text printed))

pub returns-in-Ok-None-clause-disk : goal.returns-in-Ok-None-clause-disk
returns-in-Ok-None-clause-disk g c = disk_then_read c.start.ensures.reads.0 c.check_tags.ensures.disk

pub returns-in-Ok-Some-clause-answer : goal.returns-in-Ok-Some-clause-answer
returns-in-Ok-Some-clause-answer g c = λ told.
    let start = c.args.pager.now in
    let now = c.start.new.source in
    let reads = c.start.ensures.reads in
    let pages = opened_pages start.codec (main_of (g.D.Disk.reads start.disk.now)) start.count in
    let later = opened_pages now.codec (main_of (g.D.Disk.reads now.disk.now)) now.count in
    let same : later ≡ pages = pages_same start.codec now.codec (g.D.Disk.reads start.disk.now) (g.D.Disk.reads now.disk.now) start.count now.count
    reads.2 (reads.0.only_read told).stays reads.4 in
    let free = c.in-Ok-start.started.free in
    let begun = c.in-Ok-start.ensures.found told in
    let before = g.S.Sink.taken c.args.out.now in
    let after = g.S.Sink.taken c.check_tags.new.out in
    let left = left_is pages later free c.leaves.result.now same c.leaves.ensures in
    refused_one (pages_answers pages) (rest_answers pages) (refused_but pages (marked free.leaves)) c.in-Ok-Some.page g.S.Sink.tells before after
    (tags_due pages free.leaves begun.sound begun.leafs)
    (sym c.in-Ok-Some.field-0-is ∙ c.in-Ok-Some.ensures.first told ∙ ap (λ (l : List ℕ). slice_get l 0) left)
    (λ printed. subst (λ (l : List ℕ). after ≡ before ++ tag_lines l) left (c.in-Ok-Some.ensures.text printed told))

pub returns-in-Ok-Some-clause-disk : goal.returns-in-Ok-Some-clause-disk
returns-in-Ok-Some-clause-disk g c = disk_then_read c.start.ensures.reads.0 c.check_tags.ensures.disk

pub returns-in-Ok-start-clause-answer : goal.returns-in-Ok-start-clause-answer
returns-in-Ok-start-clause-answer g c = λ told.
    let start = c.args.pager.now in
    let now = c.start.new.source in
    let reads = c.start.ensures.reads in
    let pages = opened_pages start.codec (main_of (g.D.Disk.reads start.disk.now)) start.count in
    let later = opened_pages now.codec (main_of (g.D.Disk.reads now.disk.now)) now.count in
    let same : later ≡ pages = pages_same start.codec now.codec (g.D.Disk.reads start.disk.now) (g.D.Disk.reads now.disk.now) start.count now.count
    reads.2 (reads.0.only_read told).stays reads.4 in
    let free = c.in-Ok-start.started.free in
    let begun = c.in-Ok-start.ensures.found told in
    let before = g.S.Sink.taken c.args.out.now in
    let after = g.S.Sink.taken c.check_tags.new.out in
    let left = left_is pages later free c.leaves.result.now same c.leaves.ensures in
    stopped_one (pages_answers pages) (rest_answers pages) (refused_but pages (marked free.leaves)) c.in-Err-check_tags.status g.S.Sink.tells before after
    (tags_due pages free.leaves begun.sound begun.leafs) (rest_some pages) c.in-Err-check_tags.ensures.fault
    (λ printed. subst (λ (l : List ℕ). PutsPart (tag_lines l) before after) left (c.in-Err-check_tags.ensures.part printed told))

pub returns-in-Ok-start-clause-disk : goal.returns-in-Ok-start-clause-disk
returns-in-Ok-start-clause-disk g c = disk_then_read c.start.ensures.reads.0 c.check_tags.ensures.disk

pub returns-clause-answer : goal.returns-clause-answer
returns-clause-answer g c = λ told.
    let start = c.args.pager.now in
    let pages = opened_pages start.codec (main_of (g.D.Disk.reads start.disk.now)) start.count in
    stop_one (pages_answers pages) c.walk_stop.result c.conclude_stop-in-Err-start.result g.S.Sink.tells (g.S.Sink.taken c.args.out.now)
    (g.S.Sink.taken c.conclude_stop-in-Err-start.new.out) (pages_some pages)
    (λ answer is. free_stop g.D.Disk.tells pages c.in-Err-start.error told (c.in-Err-start.ensures.found told) answer (ap stop_answer (sym c.walk_stop.ensures) ∙ is))
    c.conclude_stop-in-Err-start.ensures.status c.conclude_stop-in-Err-start.ensures.text
    (λ is. let failed = c.conclude_stop-in-Err-start.ensures.disk is in (failed.0, ap g.S.Sink.taken failed.1))
    (λ is. let starved = c.conclude_stop-in-Err-start.ensures.memory is in (starved.0, ap g.S.Sink.taken starved.1))
