use Rattle.std.proofs.Common.{◌≤◌, ℕ, sym, ap, ◌∙◌, subst}
use Rattle.db_format.specs.Header.{header_fields}
use Rattle.db_format.specs.Pages.{Pages}
use Rattle.edge_model.specs.Files.{main_of}
use Rattle.pager.proofs.UnreadLemmas.{no_held_pins}
use Rattle.rekey_job.proofs.Stopped.{pages_same}
use Rattle.sqlcipher_tool.specs.Reading.{job_due}
use Rattle.sqlcipher_tool.specs.Promises.{AnswersOne}
use Rattle.sqlcipher_tool.proofs.VerifiedFile.{opened_header}
use Rattle.sqlcipher_tool.proofs.reading.job_on_file.Goals as goal

pub job_on_pages-status-requires-clause-header : goal.job_on_pages-status-requires-clause-header
job_on_pages-status-requires-clause-header g c = λ told some.
    let file = c.args.file in
    let made = c.into_pager-pager in
    let reads = g.D.Disk.reads in
    let same = pages_same file.codec made.result.codec (reads c.args.disk.now) (reads made.result.disk.now) file.count made.result.count
    made.ensures.file.0 (ap reads made.ensures.disk.1) made.ensures.file.2 in
    made.ensures.file.1
    ∙ opened_header file.codec (main_of (reads c.args.disk.now)) file.header file.count (c.requires told) (subst (λ (n : ℕ). 1 ≤ n) made.ensures.file.2 some)
    ∙ ap (λ (p : Pages). header_fields (p.page 1)) (sym same)

pub job_on_pages-status-requires-clause-unpinned : goal.job_on_pages-status-requires-clause-unpinned
job_on_pages-status-requires-clause-unpinned g c = no_held_pins c.into_pager-pager.result.cache.held c.into_pager-pager.ensures.unread.0

pub returns-clause-answer : goal.returns-clause-answer
returns-clause-answer g c = λ told.
    let file = c.args.file in
    let made = c.into_pager-pager in
    let reads = g.D.Disk.reads in
    let same = pages_same file.codec made.result.codec (reads c.args.disk.now) (reads made.result.disk.now) file.count made.result.count
    made.ensures.file.0 (ap reads made.ensures.disk.1) made.ensures.file.2 in
    subst (λ (p : Pages). AnswersOne (job_due c.args.job p) c.job_on_pages-status.result g.S.Sink.tells (g.S.Sink.taken c.args.out.now) (g.S.Sink.taken c.job_on_pages-status.new.out))
    same (c.job_on_pages-status.ensures.answer told)
